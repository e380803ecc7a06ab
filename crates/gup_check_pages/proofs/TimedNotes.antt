-- Along the notes, what an actor may pass is known from when pages were mapped.
use Rattle.std.proofs.Common.{◌≡◌, ℕ, ◌+◌, ◌≤◌, ◌==◌, ◌&&◌, ◌||◌, nat_lt, Bool, true, false, List, [], ◌∷◌, is_none, Option, Some, None, refl, sym, arith, ◌∙◌, ap, subst}
use Rattle.std.proofs.lemmas.Bool.Decides.{nat_tests}
use Rattle.gup_plain.specs.Event.{CanHappen}
use Rattle.gup_plain.specs.Note.{NoteValue}
use Rattle.gup_plain.specs.Put.{put}
use Rattle.gup_plain.specs.State.{PlainState}
use Rattle.gup_plain.specs.declared.event.PlainEvent.{PlainEvent}
use Rattle.gup_plain.specs.declared.note.What.{What}
use Rattle.gup_plain.specs.declared.note.What.TheVariants.{Event, Done}
use Rattle.gup_script.specs.Script.{ScriptValue}
use Rattle.gup_script.specs.declared.op.Op.{Op}
use Rattle.gup_spec_accepted.specs.Passing.{Going, is_unnamed, own_after, added}
use Rattle.gup_spec_accepted.specs.Said.{says}
use Rattle.gup_spec_check.specs.Seen.{Seen, seen_first, seen_after, seen_from}
use Rattle.gup_spec_check.specs.Times.{Times, times_first, times_after, times_from, mapped_after, since_by, is_born, unnamed_since}
use Rattle.gup_spec_journal.specs.Denial.{References}
use Rattle.gup_spec_journal.specs.Place.{Place, Doer, process_of, present_op, doer_of}
use Rattle.gup_spec_journal.specs.Plain.{Judged, judged_after, plain_after, AreSo, IsSo, IsRightAt}
use Rattle.gup_check_pages.proofs.EventChanges.{changes}
use Rattle.gup_check_pages.proofs.PageChanges.{alike, Stands, Leads, leads, lacks_as}
use Rattle.gup_check_pages.proofs.Tests.{equal, or_false, put_self, put_other}

pub record Timed (script : ScriptValue) (seen : Seen) (times : Times) : Type 0 where
  pub stands : Stands seen.judged.plain times.count times.mapped
  pub heard : (a : ℕ) → times.since a ≤ times.count
  pub unnamed : (a page : ℕ) → (seen.goings a).unnamed page ≡ unnamed_since seen.judged.plain times.mapped (times.since a) (process_of script a) page

pub timed_first : (script : ScriptValue) → Timed script (seen_first script) times_first
timed_first script =
    record {
      stands = record { unborn = λ p page not. refl; counted = λ p page. omega arith };
      heard = λ a. omega arith;
      unnamed = λ a page. lacks_as ((seen_first script).judged.plain.birth (process_of script a)) None;
    }

-- ---- one more note

can_of : (s : PlainState) (references : References) (who : Doer) (place : Place) (op : Option Op) (e : PlainEvent) → IsRightAt s references who place op (Event e) → CanHappen s e
can_of s references who place None e is = absurd is
can_of s references who place (Some op) e is = is.0

still : (s : PlainState) (count : ℕ) (times : ℕ → ℕ → ℕ) → Stands s count times → Leads s s count times times
still s count times stands = leads s s count times times stands (λ p page. alike refl refl refl)

note_leads : (s : PlainState) (references : References) (who : Doer) (place : Place) (op : Option Op) (what : What) (count : ℕ) (times : ℕ → ℕ → ℕ) → Stands s count times → IsRightAt s references who place op what → Leads s (plain_after s what) count times (mapped_after (count + 1) what times)
note_leads s references who place op (Event e) count times stands is =
    leads s (plain_after s (Event e)) count times (mapped_after (count + 1) (Event e) times) stands
    (changes s count times e stands (can_of s references who place op e is))
note_leads s references who place op what count times stands is = still s count times stands

not_later : (count m : ℕ) → m ≤ count → nat_lt count m ≡ false
not_later count m le = grind (arith, nat_tests)

-- since the last note, what is unnamed now
unnamed_now : (s : PlainState) (count : ℕ) (times : ℕ → ℕ → ℕ) (p page : ℕ) → Stands s count times → is_unnamed s p page ≡ unnamed_since s times count p page
unnamed_now s count times p page stands =
    rw (not_later count (times p page) (stands.counted p page))
    (lacks_as (s.birth p) (s.right p page) ∙ ap (λ (x : Bool). is_born (s.birth p) && x) (sym (or_false (is_none (s.right p page)))))

heard_after : (b : Bool) (actor count : ℕ) (since : ℕ → ℕ) (a : ℕ) → ((a : ℕ) → since a ≤ count) → since_by b actor (count + 1) since a ≤ count + 1
heard_after false actor count since a heard = omega (arith, heard a)
heard_after true actor count since a heard = by (a == actor) refl
  where
    by : (same : Bool) → (a == actor) ≡ same → put actor (count + 1) since a ≤ count + 1
    by true at = rw at (omega arith)
    by false at = rw at (omega (arith, heard a))

since_other : (b : Bool) (actor count : ℕ) (since : ℕ → ℕ) (a : ℕ) → (a == actor) ≡ false → since_by b actor count since a ≡ since a
since_other false actor count since a other = refl
since_other true actor count since a other = rw other refl

-- of an actor that has no event or answer, what is unnamed now is added
adds : (s S : PlainState) (count : ℕ) (times after : ℕ → ℕ → ℕ) (going : Going) (since p page : ℕ) → Leads s S count times after → since ≤ count → going.unnamed page ≡ unnamed_since s times since p page → (added S p going).unnamed page ≡ unnamed_since S after since p page
adds s S count times after going since p page leads heard is = ap (λ (x : Bool). x || is_unnamed S p page) is ∙ leads.since since p page heard

own : (s S : PlainState) (count : ℕ) (times after : ℕ → ℕ → ℕ) (going : Going) (since : ℕ → ℕ) (a p page : ℕ) (op : Option Op) (what : What) → Leads s S count times after → since a ≤ count → going.unnamed page ≡ unnamed_since s times (since a) p page → (own_after S p going op what).unnamed page ≡ unnamed_since S after (since_by (says what) a (count + 1) since a) p page
own s S count times after going since a p page op (Event e) leads heard is = rw (put_self a (count + 1) since) (unnamed_now S (count + 1) after p page leads.stands)
own s S count times after going since a p page op (Done answer) leads heard is = rw (put_self a (count + 1) since) (unnamed_now S (count + 1) after p page leads.stands)
own s S count times after going since a p page op what leads heard is = adds s S count times after going (since a) p page leads heard is

-- what is known behind the note of an actor's pages
abbrev Known : ScriptValue → Seen → Times → NoteValue → (a page : ℕ) → Type 0
Known script seen times note a page =
    ((seen_after script seen note).goings a).unnamed page
    ≡ unnamed_since (seen_after script seen note).judged.plain (times_after times note).mapped ((times_after times note).since a) (process_of script a) page

-- the note leads from what was seen before it
abbrev LeadsBy : Seen → Times → NoteValue → Type 0
LeadsBy seen times note =
    Leads seen.judged.plain (plain_after seen.judged.plain note.what) times.count times.mapped (mapped_after (times.count + 1) note.what times.mapped)

known_own : (script : ScriptValue) (seen : Seen) (times : Times) (note : NoteValue) (page : ℕ) → Timed script seen times → LeadsBy seen times note → Known script seen times note note.actor page
known_own script seen times note page timed led =
    let a : ℕ = note.actor in
    let p : ℕ = process_of script a in
    let s : PlainState = seen.judged.plain in
    let j : Judged = judged_after script seen.judged note in
    let op : Option Op = present_op script a (j.places a) in
    ap (λ (g : Going). g.unnamed page)
    (put_self a (own_after j.plain p (seen.goings a) op note.what) (λ b. added j.plain (process_of script b) (seen.goings b)))
    ∙ own s j.plain times.count times.mapped (times_after times note).mapped (seen.goings a) times.since a p page op note.what led (timed.heard a) (timed.unnamed a page)

known_other : (script : ScriptValue) (seen : Seen) (times : Times) (note : NoteValue) (a page : ℕ) → Timed script seen times → LeadsBy seen times note → (a == note.actor) ≡ false → Known script seen times note a page
known_other script seen times note a page timed led other =
    let p : ℕ = process_of script a in
    let s : PlainState = seen.judged.plain in
    let j : Judged = judged_after script seen.judged note in
    let op : Option Op = present_op script note.actor (j.places note.actor) in
    ap (λ (g : Going). g.unnamed page)
    (put_other note.actor (own_after j.plain (process_of script note.actor) (seen.goings note.actor) op note.what) (λ b. added j.plain (process_of script b) (seen.goings b)) a other)
    ∙ adds s j.plain times.count times.mapped (times_after times note).mapped (seen.goings a) (times.since a) p page led (timed.heard a) (timed.unnamed a page)
    ∙ ap (λ (n : ℕ). unnamed_since j.plain (times_after times note).mapped n p page) (sym (since_other (says note.what) note.actor (times.count + 1) times.since a other))

known : (script : ScriptValue) (seen : Seen) (times : Times) (note : NoteValue) (a page : ℕ) (same : Bool) → (a == note.actor) ≡ same → Timed script seen times → LeadsBy seen times note → Known script seen times note a page
known script seen times note a page true at timed led =
    subst (λ (b : ℕ). Known script seen times note b page) (sym (equal a note.actor at)) (known_own script seen times note page timed led)
known script seen times note a page false at timed led = known_other script seen times note a page timed led at

timed_after : (script : ScriptValue) (seen : Seen) (times : Times) (note : NoteValue) → Timed script seen times → IsSo IsRightAt script seen.judged note → Timed script (seen_after script seen note) (times_after times note)
timed_after script seen times note timed is =
    let place : Place = seen.judged.places note.actor in
    let op : Option Op = present_op script note.actor place in
    let led : LeadsBy seen times note = note_leads seen.judged.plain seen.judged.references (doer_of script note.actor op) place op note.what times.count times.mapped timed.stands is in
    record {
      stands = led.stands;
      heard = λ a. heard_after (says note.what) note.actor times.count times.since a timed.heard;
      unnamed = λ a page. known script seen times note a page (a == note.actor) refl timed led;
    }

pub timed_from : (script : ScriptValue) (seen : Seen) (times : Times) (notes : List NoteValue) → Timed script seen times → AreSo IsRightAt script seen.judged notes → Timed script (seen_from script seen notes) (times_from times notes)
timed_from script seen times [] timed are = timed
timed_from script seen times (note ∷ notes) timed are =
    timed_from script (seen_after script seen note) (times_after times note) notes (timed_after script seen times note timed are.0) are.1
