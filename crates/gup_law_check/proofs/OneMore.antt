-- What is so of each note, in what the notes before it have led to, is so of one more exactly where it is so of those before it, and of
-- this one in what they have led to.
use Rattle.std.proofs.Common.{◌≡◌, ◌↔◌, List, [], ◌∷◌, ◌++◌, Option, Some, None, refl}
use Rattle.gup_plain.specs.Note.{NoteValue}
use Rattle.gup_script.specs.Script.{ScriptValue}
use Rattle.gup_spec_journal.specs.Place.{process_of, present_op}
use Rattle.gup_spec_journal.specs.Plain.{Judgement, IsSo, AreSo}
use Rattle.gup_spec_accepted.specs.Passing.{PassesRight, ArePassedFrom}
use Rattle.gup_spec_accepted.specs.Turns.{AreTurnsFrom, AreTurns}
use Rattle.gup_spec_accepted.specs.Waits.{StandsRight, StandRightFrom}
use Rattle.gup_spec_check.specs.Seen.{Seen, seen_after, seen_from, FitsTurn}

pub seen_from-append : (script : ScriptValue) (seen : Seen) (front : List NoteValue) (note : NoteValue) → seen_from script seen (front ++ note ∷ []) ≡ seen_after script (seen_from script seen front) note
seen_from-append script seen [] note = refl
seen_from-append script seen (first ∷ front) note = seen_from-append script (seen_after script seen first) front note

-- of one note alone, and of one behind others
alone : {Here : Type 0} → (Here × Unit {0}) ↔ (Unit {0} × Here)
alone = (λ is. (tt, is.0), λ is. (is.1, tt))

behind : {First Before Here Later : Type 0} → Later ↔ (Before × Here) → (First × Later) ↔ ((First × Before) × Here)
behind later = (λ is. ((is.0, (later.0 is.1).0), (later.0 is.1).1), λ is. (is.0.0, later.1 (is.0.1, is.1)))

pub so_of_more : (judgement : Judgement) (script : ScriptValue) (seen : Seen) (front : List NoteValue) (note : NoteValue) → AreSo judgement script seen.judged (front ++ note ∷ []) ↔ (AreSo judgement script seen.judged front × IsSo judgement script (seen_from script seen front).judged note)
so_of_more judgement script seen [] note = alone
so_of_more judgement script seen (first ∷ front) note = behind (so_of_more judgement script (seen_after script seen first) front note)

-- the note passes no page that was named all the time
abbrev pub Passes : ScriptValue → Seen → NoteValue → Type 0
Passes script seen note =
    PassesRight seen.judged.plain (seen.goings note.actor) (process_of script note.actor) (present_op script note.actor (seen.judged.places note.actor)) note.what

pub pass_with_more : (script : ScriptValue) (seen : Seen) (front : List NoteValue) (note : NoteValue) → ArePassedFrom script seen.judged seen.goings (front ++ note ∷ []) ↔ (ArePassedFrom script seen.judged seen.goings front × Passes script (seen_from script seen front) note)
pass_with_more script seen [] note = alone
pass_with_more script seen (first ∷ front) note = behind (pass_with_more script (seen_after script seen first) front note)

pub stand_with_more : (script : ScriptValue) (seen : Seen) (front : List NoteValue) (note : NoteValue) → StandRightFrom script seen.judged (front ++ note ∷ []) ↔ (StandRightFrom script seen.judged front × StandsRight script (seen_from script seen front).judged note.actor note.what)
stand_with_more script seen [] note = alone
stand_with_more script seen (first ∷ front) note = behind (stand_with_more script (seen_after script seen first) front note)

-- turns behind the last note, if there is one
abbrev pub AreTurnsBehind : ScriptValue → (last : Option NoteValue) → List NoteValue → Type 0
AreTurnsBehind script None notes = AreTurns script notes
AreTurnsBehind script (Some last) notes = AreTurnsFrom script last.turn last.actor notes

turns_alone : (script : ScriptValue) (last : Option NoteValue) (note : NoteValue) → AreTurnsBehind script last (note ∷ []) ↔ (AreTurnsBehind script last [] × FitsTurn script last note)
turns_alone script None note = alone
turns_alone script (Some last) note = alone

turns_behind : {Here : Type 0} (script : ScriptValue) (last : Option NoteValue) (first : NoteValue) (front more : List NoteValue) → AreTurnsBehind script (Some first) more ↔ (AreTurnsBehind script (Some first) front × Here) → AreTurnsBehind script last (first ∷ more) ↔ (AreTurnsBehind script last (first ∷ front) × Here)
turns_behind script None first front more later = behind later
turns_behind script (Some last) first front more later = behind later

pub turns_of_more : (script : ScriptValue) (seen : Seen) (front : List NoteValue) (note : NoteValue) → AreTurnsBehind script seen.last (front ++ note ∷ []) ↔ (AreTurnsBehind script seen.last front × FitsTurn script (seen_from script seen front).last note)
turns_of_more script seen [] note = turns_alone script seen.last note
turns_of_more script seen (first ∷ front) note =
    turns_behind script seen.last first front (front ++ note ∷ []) (turns_of_more script (seen_after script seen first) front note)
