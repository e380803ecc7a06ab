-- What is kept behind a note shows what the notes have led to with it.
use Rattle.std.proofs.Common.{◌≡◌, ◌≢◌, ℕ, ◌==◌, Bool, true, false, List, Option, IfSome, slice_get, refl, sym, subst, arith}
use Rattle.std.proofs.lemmas.Bool.Decides.{nat_tests}
use Rattle.std.proofs.lemmas.Option.{IfSome_then}
use Rattle.gup_plain.specs.Note.{NoteValue}
use Rattle.gup_plain.specs.declared.note.What.{What}
use Rattle.gup_script.specs.declared.op.Op.{Op}
use Rattle.gup_script.specs.Script.{ScriptValue}
use Rattle.gup_spec_journal.specs.Denial.{References}
use Rattle.gup_spec_journal.specs.Plain.{references_after}
use Rattle.gup_spec_check.specs.Seen.{Seen, seen_after}
use Rattle.gup_spec_check.specs.Times.{Times, times_after, mapped_after}
use Rattle.gup_check_state.specs.declared.kept.Progress.{Progress}
use Rattle.gup_check_state.specs.Shows.{IsProgress}
use Rattle.gup_check_state.proofs.NoteProgress.{other_behind}

-- each actor has come so far
pub all_behind : (script : ScriptValue) (seen : Seen) (times : Times) (note : NoteValue) (old new : List Progress) →
    ((a : ℕ) → IfSome (slice_get old a) (IsProgress seen times a)) →
    IfSome (slice_get new note.actor) (IsProgress (seen_after script seen note) (times_after times note) note.actor) →
    ((a : ℕ) → a ≢ note.actor → slice_get new a ≡ slice_get old a) →
    (a : ℕ) → IfSome (slice_get new a) (IsProgress (seen_after script seen note) (times_after times note) a)
all_behind script seen times note old new was own others a = by_test (a == note.actor) refl
  where
    by_test : (test : Bool) → (a == note.actor) ≡ test → IfSome (slice_get new a) (IsProgress (seen_after script seen note) (times_after times note) a)
    by_test true is =
        let at : note.actor ≡ a = grind (arith, nat_tests) in
        subst (λ (b : ℕ). IfSome (slice_get new b) (IsProgress (seen_after script seen note) (times_after times note) b)) at own
    by_test false is =
        let elsewhere : a ≢ note.actor = λ at. grind (arith, nat_tests) in
        subst (λ (found : Option Progress). IfSome found (IsProgress (seen_after script seen note) (times_after times note) a)) (sym (others a elsewhere))
        (IfSome_then (slice_get old a) (was a) (λ progress has. other_behind script seen times note a progress elsewhere has))

-- the same of the same

pub references_are : (new old references : References) (actor a : ℕ) (found op : Option Op) (said what : What) →
    new ≡ references_after old actor found said → old ≡ references → actor ≡ a → found ≡ op → said ≡ what →
    new ≡ references_after references a op what
references_are new old references actor a found op said what is olds actors ops whats = cc

pub mapped_are : (new old mapped : ℕ → ℕ → ℕ) (number count : ℕ) (said what : What) →
    new ≡ mapped_after number said old → old ≡ mapped → number ≡ count → said ≡ what →
    new ≡ mapped_after count what mapped
mapped_are new old mapped number count said what is olds counts whats = cc
