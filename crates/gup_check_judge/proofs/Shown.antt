-- What is found out from what is kept is so of what was seen.
use Rattle.std.proofs.Common.{◌≡◌, ℕ, ◌↔◌, Bool, true, false, Option, Some, IsTrue, length, sym, ◌∙◌, ap, subst}
use Rattle.std.proofs.Math.Path.{fun_ext}
use Rattle.std.specs.Bool.{then_some}
use Rattle.gup_plain.specs.Note.{NoteValue}
use Rattle.gup_plain.specs.State.{PlainState}
use Rattle.gup_plain.specs.declared.answer.Answer.{Answer}
use Rattle.gup_plain.specs.declared.event.PlainEvent.{PlainEvent}
use Rattle.gup_plain.specs.declared.note.What.{What}
use Rattle.gup_plain.specs.declared.note.What.TheVariants.{Event, Done}
use Rattle.gup_script.specs.Script.{ScriptValue}
use Rattle.gup_script.specs.declared.op.Op.{Op}
use Rattle.gup_spec_accepted.specs.Passing.{Going, PassesRight}
use Rattle.gup_spec_journal.specs.Denial.{References, denial}
use Rattle.gup_spec_journal.specs.Place.{process_of, doer_of, birth_for}
use Rattle.gup_spec_journal.specs.Plain.{MayStand, IsBornOrFailed, IsAnswerAfter, judged_before, refusal_in, pages_got, got_at}
use Rattle.gup_exec_plain.specs.Parts.{state_of}
use Rattle.gup_check_course.specs.declared.course.Step.{Step}
use Rattle.gup_check_pages.specs.Mapped.{mapped_of}
use Rattle.gup_check_pages.specs.Passing.{timed_going}
use Rattle.gup_check_plain.specs.Referring.{references_of}
use Rattle.gup_law_course.specs.UnderWay.{is_under_way}
use Rattle.gup_spec_check.specs.Seen.{Seen, Fits, FitsTurn}
use Rattle.gup_spec_check.specs.Times.{Times, unnamed_since}
use Rattle.gup_check_state.specs.declared.kept.Fit.TheVariants.{Steps}
use Rattle.gup_check_state.specs.declared.kept.Kept.{Kept}
use Rattle.gup_check_state.specs.declared.kept.Progress.{Progress}
use Rattle.gup_check_state.specs.Shows.{Shows, IsProgress}
use Rattle.gup_check_judge.specs.Knows.{Knows, AreJudged}
use Rattle.gup_check_judge.specs.Present.{IsPresent, standing_of, step_of}
use Rattle.gup_check_judge.proofs.Actors.{progress_shown, present_shown}
use Rattle.gup_check_judge.proofs.Judging.{IsWithin, Passes, no_pass, no_birth, event_judged, answer_judged}

-- what was seen is kept and known, the note is of the right turn, and this is its actor's present operation
pub record IsShown (script : ScriptValue) (kept : Kept) (seen : Seen) (times : Times) (note : NoteValue) (progress : Progress) (op : Op) : Type 0 where
  pub shows : Shows script kept seen times
  pub knows : Knows script seen times
  pub turn : FitsTurn script seen.last note
  pub present : IsPresent script kept note.actor progress op

pub within_shown : (script : ScriptValue) (kept : Kept) (seen : Seen) (times : Times) (note : NoteValue) (progress : Progress) (op : Op) → IsShown script kept seen times note progress op → IsWithin script seen note (standing_of progress) op
within_shown script kept seen times note progress op shown =
    let is : IsProgress seen times note.actor progress = progress_shown script kept seen times note.actor progress shown.shows shown.present.kept_so in
    record {
      turn = shown.turn;
      present = sym (present_shown script kept seen times note.actor progress shown.shows shown.knows shown.present.kept_so) ∙ shown.present.next;
      stands_so = is.standing;
      answered = shown.knows.answered note.actor (standing_of progress) is.standing;
    }

-- ---- pages

-- a test of the pages that are passed, by what is kept
abbrev pub TellsPasses : ScriptValue → Kept → NoteValue → Progress → Op → Bool → Type 0
TellsPasses script kept note progress op passes =
    IsTrue passes ↔ PassesRight (state_of kept.plain) (timed_going (state_of kept.plain) (mapped_of kept.mapped) progress.said progress.next (process_of script note.actor)) (process_of script note.actor) (Some op) note.what

pub passes_told : (s : PlainState) (mapped : ℕ → ℕ → ℕ) (since next n p : ℕ) (op : Op) (what said : What) (passes : Bool) → n ≡ p → said ≡ what → IsTrue passes ↔ PassesRight s (timed_going s mapped since next n) n (Some op) said → IsTrue passes ↔ PassesRight s (timed_going s mapped since next p) p (Some op) what
passes_told s mapped since next n p op what said passes number is told = rw (← number, ← is) told

same_going : (s t : PlainState) (mapped times : ℕ → ℕ → ℕ) (said since next p : ℕ) (going : Going) → s ≡ t → mapped ≡ times → said ≡ since → next ≡ going.next → ((page : ℕ) → going.unnamed page ≡ unnamed_since t times since p page) → timed_going s mapped said next p ≡ going
same_going s t mapped times said since next p going plain_is mapped_is said_is next_is timed =
    rw (plain_is, mapped_is, said_is, next_is)
    (ap (λ (unnamed : ℕ → Bool). record going { unnamed = unnamed }) (fun_ext (λ page. sym (timed page))))

pub passes_shown : (script : ScriptValue) (kept : Kept) (seen : Seen) (times : Times) (note : NoteValue) (progress : Progress) (op : Op) (passes : Bool) → IsShown script kept seen times note progress op → TellsPasses script kept note progress op passes → IsTrue passes ↔ Passes script seen note op
passes_shown script kept seen times note progress op passes shown told =
    let is : IsProgress seen times note.actor progress = progress_shown script kept seen times note.actor progress shown.shows shown.present.kept_so in
    let p : ℕ = process_of script note.actor in
    same (state_of kept.plain) (timed_going (state_of kept.plain) (mapped_of kept.mapped) progress.said progress.next p) shown.shows.plain
    (same_going (state_of kept.plain) seen.judged.plain (mapped_of kept.mapped) times.mapped progress.said (times.since note.actor) progress.next p (seen.goings note.actor) shown.shows.plain shown.shows.mapped is.said is.next (shown.knows.timed note.actor))
    told
  where
    same : (s : PlainState) (going : Going) → s ≡ seen.judged.plain → going ≡ seen.goings note.actor → IsTrue passes ↔ PassesRight s going (process_of script note.actor) (Some op) note.what → IsTrue passes ↔ Passes script seen note op
    same s going plain_is going_is told = rw (← plain_is, ← going_is) told

pub not_passed : (script : ScriptValue) (kept : Kept) (seen : Seen) (times : Times) (note : NoteValue) (progress : Progress) (op : Op) (passes : Bool) → IsShown script kept seen times note progress op → passes ≡ false → TellsPasses script kept note progress op passes → Fits script seen note → ⊥
not_passed script kept seen times note progress op passes shown is told =
    no_pass script seen note (standing_of progress) op (within_shown script kept seen times note progress op shown)
    (λ right. absurd (cc ((passes_shown script kept seen times note progress op passes shown told).1 right, is)))

-- ---- events and answers

same_denial : (s t : PlainState) (references holders : References) (script : ScriptValue) (a b got want : ℕ) (op : Op) → s ≡ t → references ≡ holders → a ≡ b → got ≡ want → denial s references (doer_of script a (Some op)) got op ≡ denial t holders (doer_of script b (Some op)) want op
same_denial s t references holders script a b got want op plain_is references_is actor_is got_is =
    ap (λ (x : PlainState). denial x references (doer_of script a (Some op)) got op) plain_is
    ∙ ap (λ (x : References). denial t x (doer_of script a (Some op)) got op) references_is
    ∙ ap (λ (x : ℕ). denial t holders (doer_of script x (Some op)) got op) actor_is
    ∙ ap (λ (x : ℕ). denial t holders (doer_of script b (Some op)) x op) got_is

pub event_shown : (script : ScriptValue) (kept : Kept) (seen : Seen) (times : Times) (note : NoteValue) (progress : Progress) (op : Op) (e : PlainEvent) (step : Step) (passes right had : Bool) (denied : Option Answer) (a got : ℕ) → IsShown script kept seen times note progress op → note.what ≡ Event e → step_of script note (standing_of progress) op ≡ Some step → passes ≡ true → TellsPasses script kept note progress op passes → a ≡ note.actor → got ≡ length ((state_of kept.plain).pending a) → denied ≡ denial (state_of kept.plain) (references_of kept.references) (doer_of script a (Some op)) got op → had ≡ is_under_way progress.course → IsTrue right ↔ MayStand had denied op e → AreJudged script seen note (then_some right (Steps step))
event_shown script kept seen times note progress op e step passes right had denied a got shown says_so is_step passes_is passes_tell actor_is got_is denied_is had_is told =
    let is : IsProgress seen times note.actor progress = progress_shown script kept seen times note.actor progress shown.shows shown.present.kept_so in
    let had_so : had ≡ (seen.judged.places note.actor).had = had_is ∙ sym (shown.knows.had note.actor (standing_of progress) is.standing) in
    let got_so : got ≡ pages_got seen.judged.plain note.actor = got_is ∙ ap (λ (s : PlainState). length (s.pending a)) shown.shows.plain ∙ ap (λ (b : ℕ). length (seen.judged.plain.pending b)) actor_is in
    let denied_so : denied ≡ denial seen.judged.plain seen.judged.references (doer_of script note.actor (Some op)) (pages_got seen.judged.plain note.actor) op =
    denied_is ∙ same_denial (state_of kept.plain) seen.judged.plain (references_of kept.references) seen.judged.references script a note.actor got (pages_got seen.judged.plain note.actor) op shown.shows.plain shown.shows.references actor_is got_so in
    event_judged script seen note (standing_of progress) op e step right (within_shown script kept seen times note progress op shown) says_so is_step
    ((passes_shown script kept seen times note progress op passes shown passes_tell).0 passes_is)
    (rw (← had_so, ← denied_so) told)

come_shown : (script : ScriptValue) (s t : PlainState) (a b : ℕ) (op : Op) (come : Bool) → s ≡ t → a ≡ b → IsTrue come ↔ IsBornOrFailed (birth_for s.birth (doer_of script a (Some op))) → IsTrue come ↔ IsBornOrFailed (birth_for t.birth (doer_of script b (Some op)))
come_shown script s t a b op come plain_is actor_is told =
    subst (λ (x : ℕ). IsTrue come ↔ IsBornOrFailed (birth_for t.birth (doer_of script x (Some op)))) actor_is
    (subst (λ (x : PlainState). IsTrue come ↔ IsBornOrFailed (birth_for x.birth (doer_of script a (Some op)))) plain_is told)

pub not_come : (script : ScriptValue) (kept : Kept) (seen : Seen) (times : Times) (note : NoteValue) (progress : Progress) (op : Op) (answer : Answer) (come : Bool) (a : ℕ) → IsShown script kept seen times note progress op → note.what ≡ Done answer → a ≡ note.actor → come ≡ false → IsTrue come ↔ IsBornOrFailed (birth_for (state_of kept.plain).birth (doer_of script a (Some op))) → Fits script seen note → ⊥
not_come script kept seen times note progress op answer come a shown says_so actor_is is told =
    no_birth script seen note (standing_of progress) op answer (within_shown script kept seen times note progress op shown) says_so
    (λ right. absurd (cc ((come_shown script (state_of kept.plain) seen.judged.plain a note.actor op come shown.shows.plain actor_is told).1 right, is)))

pub answer_shown : (script : ScriptValue) (kept : Kept) (seen : Seen) (times : Times) (note : NoteValue) (progress : Progress) (op : Op) (answer : Answer) (step : Step) (passes come right had judged : Bool) (denied : Option Answer) (a got : ℕ) → IsShown script kept seen times note progress op → note.what ≡ Done answer → step_of script note (standing_of progress) op ≡ Some step → passes ≡ true → TellsPasses script kept note progress op passes → a ≡ note.actor → come ≡ true → IsTrue come ↔ IsBornOrFailed (birth_for (state_of kept.plain).birth (doer_of script a (Some op))) → got ≡ got_at (state_of kept.plain) a answer → denied ≡ denial (state_of kept.plain) (references_of kept.references) (doer_of script a (Some op)) got op → had ≡ is_under_way progress.course → judged ≡ judged_before op had answer → IsTrue right ↔ IsAnswerAfter judged denied (refusal_in answer) → AreJudged script seen note (then_some right (Steps step))
answer_shown script kept seen times note progress op answer step passes come right had judged denied a got shown says_so is_step passes_is passes_tell actor_is come_is come_tells got_is denied_is had_is judged_is told =
    let is : IsProgress seen times note.actor progress = progress_shown script kept seen times note.actor progress shown.shows shown.present.kept_so in
    let had_so : had ≡ (seen.judged.places note.actor).had = had_is ∙ sym (shown.knows.had note.actor (standing_of progress) is.standing) in
    let got_so : got ≡ got_at seen.judged.plain note.actor answer = got_is ∙ ap (λ (s : PlainState). got_at s a answer) shown.shows.plain ∙ ap (λ (b : ℕ). got_at seen.judged.plain b answer) actor_is in
    let denied_so : denied ≡ denial seen.judged.plain seen.judged.references (doer_of script note.actor (Some op)) (got_at seen.judged.plain note.actor answer) op =
    denied_is ∙ same_denial (state_of kept.plain) seen.judged.plain (references_of kept.references) seen.judged.references script a note.actor got (got_at seen.judged.plain note.actor answer) op shown.shows.plain shown.shows.references actor_is got_so in
    answer_judged script seen note (standing_of progress) op answer step right (within_shown script kept seen times note progress op shown) says_so is_step
    ((passes_shown script kept seen times note progress op passes shown passes_tell).0 passes_is)
    ((come_shown script (state_of kept.plain) seen.judged.plain a note.actor op come shown.shows.plain actor_is come_tells).0 come_is)
    (rw (← had_so, ← judged_is, ← denied_so) told)
