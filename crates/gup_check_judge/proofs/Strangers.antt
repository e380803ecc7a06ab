-- In accepted notes an actor that the script doesn't declare says nothing: it has no event and no answer that is right.
use Rattle.std.proofs.Common.{◌≡◌, ℕ, ◌==◌, cond, Bool, true, false, List, [], ◌∷◌, None, IsSome, refl, subst}
use Rattle.std.proofs.lemmas.Bool.{eqb-true}
use Rattle.gup_plain.specs.Note.{NoteValue}
use Rattle.gup_plain.specs.declared.note.What.{What}
use Rattle.gup_plain.specs.declared.note.What.TheVariants.{Silent, Idle, Wait, Event, Done}
use Rattle.gup_script.specs.Script.{ScriptValue, actor_at}
use Rattle.gup_spec_accepted.specs.Accepted.{Accepted}
use Rattle.gup_spec_accepted.specs.Said.{says}
use Rattle.gup_spec_journal.specs.Place.{present_op}
use Rattle.gup_spec_journal.specs.Plain.{AreSo, IsSo, IsRightAt, IsRightBehind}
use Rattle.gup_spec_check.specs.Seen.{Seen, seen_first, seen_after, seen_from, seen_of, stood}
use Rattle.gup_check_judge.proofs.Actors.{stranger_present}

says_nothing : (what : What) → IsRightBehind what → says what ≡ false
says_nothing Silent right = absurd right
says_nothing Idle right = refl
says_nothing (Wait waiting) right = refl
says_nothing (Event e) right = absurd right
says_nothing (Done answer) right = absurd right

stands_after : (script : ScriptValue) (seen : Seen) (note : NoteValue) (a : ℕ) → IsSo IsRightAt script seen.judged note → actor_at script a ≡ None → IsSome (seen.standings a) → IsSome ((seen_after script seen note).standings a)
stands_after script seen note a right stranger stands = by (a == note.actor) refl
  where
    by : (own : Bool) → (a == note.actor) ≡ own → IsSome (cond own (stood script note (seen.standings note.actor)) (seen.standings a))
    by false is = stands
    by true is =
        let same : a ≡ note.actor = eqb-true a note.actor is in
        let none : present_op script note.actor (seen.judged.places note.actor) ≡ None =
        stranger_present script note.actor (seen.judged.places note.actor) (subst (λ (b : ℕ). actor_at script b ≡ None) same stranger) in
        let behind : IsRightBehind note.what = rw none at right in
        rw (says_nothing note.what behind) (subst (λ (b : ℕ). IsSome (seen.standings b)) same stands)

stands_from : (script : ScriptValue) (seen : Seen) (notes : List NoteValue) (a : ℕ) → AreSo IsRightAt script seen.judged notes → actor_at script a ≡ None → IsSome (seen.standings a) → IsSome ((seen_from script seen notes).standings a)
stands_from script seen [] a right stranger stands = stands
stands_from script seen (note ∷ notes) a right stranger stands =
    stands_from script (seen_after script seen note) notes a right.1 stranger (stands_after script seen note a right.0 stranger stands)

-- so it stands where it did at the start: what `Knows` asks of strangers
pub strangers_stand : (script : ScriptValue) (notes : List NoteValue) → Accepted script notes → (a : ℕ) → actor_at script a ≡ None → IsSome ((seen_of script notes).standings a)
strangers_stand script notes accepted a stranger = stands_from script (seen_first script) notes a accepted.plain stranger refl
