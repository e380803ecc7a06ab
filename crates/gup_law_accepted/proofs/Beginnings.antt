-- Each part of what accepted notes are holds of their beginning.
use Rattle.std.proofs.Common.{◌≡◌, ℕ, ◌==◌, ◌&&◌, List, [], ◌∷◌, ◌++◌, map, filter, ap, ◌∙◌, append_assoc}
use Rattle.std.proofs.lemmas.List.{map-append}
use Rattle.std.proofs.lemmas.List.Elements.{filter-append}
use Rattle.gup_plain.specs.Note.{NoteValue}
use Rattle.gup_script.specs.Script.{ScriptValue}
use Rattle.gup_spec_journal.specs.Plain.{Judged, Judgement, AreSo, IsRightAt, judged_first, judged_after}
use Rattle.gup_spec_accepted.specs.Accepted.{Accepted}
use Rattle.gup_spec_accepted.specs.Passing.{Going, ArePassedFrom, goings_first, goings_after}
use Rattle.gup_spec_accepted.specs.Said.{Said, says, said_of, said_by, BeginsOperations}
use Rattle.gup_spec_accepted.specs.Turns.{AreTurnsFrom, AreTurns}
use Rattle.gup_spec_accepted.specs.Waits.{StandRightFrom}

turns_from : (script : ScriptValue) (turn a : ℕ) (notes more : List NoteValue) → AreTurnsFrom script turn a (notes ++ more) → AreTurnsFrom script turn a notes
turns_from script turn a [] more are = tt
turns_from script turn a (note ∷ notes) more are = (are.0, turns_from script note.turn note.actor notes more are.1)

turns : (script : ScriptValue) (notes more : List NoteValue) → AreTurns script (notes ++ more) → AreTurns script notes
turns script [] more are = tt
turns script (note ∷ notes) more are = (are.0, turns_from script note.turn note.actor notes more are.1)

pub said_append : (a : ℕ) (front rest : List NoteValue) → said_by a (front ++ rest) ≡ said_by a front ++ said_by a rest
said_append a front rest =
    ap (map said_of) (filter-append (λ (n : NoteValue). (n.actor == a) && says n.what) front rest)
    ∙ map-append said_of (filter (λ (n : NoteValue). (n.actor == a) && says n.what) front) (filter (λ (n : NoteValue). (n.actor == a) && says n.what) rest)

begins : (script : ScriptValue) (notes more : List NoteValue) (a : ℕ) → BeginsOperations script a (said_by a (notes ++ more)) → BeginsOperations script a (said_by a notes)
begins script notes more a is = (
  is.0,
  said_by a more ++ is.1,
  is.2,
  is.3 ∙ ap (λ (said : List Said). said ++ is.1) (said_append a notes more) ∙ append_assoc (said_by a notes) (said_by a more) is.1,
)

so : (judgement : Judgement) (script : ScriptValue) (j : Judged) (notes more : List NoteValue) → AreSo judgement script j (notes ++ more) → AreSo judgement script j notes
so judgement script j [] more are = tt
so judgement script j (note ∷ notes) more are = (are.0, so judgement script (judged_after script j note) notes more are.1)

passed : (script : ScriptValue) (j : Judged) (goings : ℕ → Going) (notes more : List NoteValue) → ArePassedFrom script j goings (notes ++ more) → ArePassedFrom script j goings notes
passed script j goings [] more are = tt
passed script j goings (note ∷ notes) more are =
    (are.0, passed script (judged_after script j note) (goings_after script (judged_after script j note) goings note) notes more are.1)

stand : (script : ScriptValue) (j : Judged) (notes more : List NoteValue) → StandRightFrom script j (notes ++ more) → StandRightFrom script j notes
stand script j [] more are = tt
stand script j (note ∷ notes) more are = (are.0, stand script (judged_after script j note) notes more are.1)

pub accepted_beginning : (script : ScriptValue) (notes more : List NoteValue) → Accepted script (notes ++ more) → Accepted script notes
accepted_beginning script notes more is =
    record {
      turns = turns script notes more is.turns;
      begins = λ a. begins script notes more a (is.begins a);
      plain = so IsRightAt script (judged_first script) notes more is.plain;
      passing = passed script (judged_first script) (goings_first script) notes more is.passing;
      standing = stand script (judged_first script) notes more is.standing;
    }
