-- How many operations an actor has answered is counted answer by answer.
use Rattle.std.proofs.Common.{◌≡◌, ℕ, ◌+◌, ◌==◌, ◌&&◌, cond, Bool, true, false, List, [], ◌∷◌, length, refl, arith}
use Rattle.std.proofs.lemmas.Bool.Decides.{nat_tests}
use Rattle.gup_plain.specs.Note.{NoteValue}
use Rattle.gup_plain.specs.Put.{put}
use Rattle.gup_plain.specs.declared.note.What.{What}
use Rattle.gup_plain.specs.declared.note.What.TheVariants.{Done}
use Rattle.gup_script.specs.Script.{ScriptValue}
use Rattle.gup_spec_journal.specs.Place.{Place, place_after}
use Rattle.gup_spec_check.specs.Seen.{Seen, seen_first, seen_after, seen_from, seen_of}
use Rattle.gup_spec_check.specs.Verdicts.{is_answer, answers_by}

answered_behind : (place : Place) (what : What) → (place_after place what).answered ≡ place.answered + cond (is_answer what) 1 0
answered_behind place (Done answer) = refl
answered_behind place what = omega arith

-- one more, or as many
count_more : (note : NoteValue) (notes : List NoteValue) (more : Bool) → length (cond more (note ∷ notes) notes) ≡ cond more 1 0 + length notes
count_more note notes true = omega arith
count_more note notes false = omega arith

-- whoever's note it is
answered_with : (places : ℕ → Place) (note : NoteValue) (a : ℕ) → (put note.actor (place_after (places note.actor) note.what) places a).answered ≡ (places a).answered + cond ((note.actor == a) && is_answer note.what) 1 0
answered_with places note a = grind (arith, nat_tests, answered_behind (places note.actor) note.what)

answered_from : (script : ScriptValue) (a : ℕ) (seen : Seen) (notes : List NoteValue) → ((seen_from script seen notes).judged.places a).answered ≡ (seen.judged.places a).answered + length (answers_by a notes)
answered_from script a seen [] = omega arith
answered_from script a seen (note ∷ notes) =
    omega (arith, answered_from script a (seen_after script seen note) notes, answered_with seen.judged.places note a, count_more note (answers_by a notes) ((note.actor == a) && is_answer note.what))

pub answered_of : (script : ScriptValue) (notes : List NoteValue) (a : ℕ) → ((seen_of script notes).judged.places a).answered ≡ length (answers_by a notes)
answered_of script notes a = omega (arith, answered_from script a (seen_first script) notes)
