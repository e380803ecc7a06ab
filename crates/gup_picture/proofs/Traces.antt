-- What is known of a trace that was read: its notes are fewer than its bytes, and each can be written.
use Rattle.std.proofs.Common.{ℕ, ◌+◌, ◌<◌, ◌≤◌, ◌^◌, List, [], ◌∷◌, Option, length, ap, arith}
use Rattle.std.specs.Prelude.{All}
use Rattle.std.specs.List.{flat_map}
use Rattle.std.proofs.lemmas.List.{length-append}
use Rattle.gup_plain.specs.Note.{NoteValue}
use Rattle.gup_script.specs.Script.{ScriptValue}
use Rattle.gup_spec_trace.specs.Note.{note_line}
use Rattle.gup_spec_trace.specs.Trace.{IsTrace}
use Rattle.gup_spec_trace.specs.Written.{CanBeWritten}
use Rattle.gup_check_front.specs.Reading.{IsReadAs}

-- each line has a byte at least, its line feed
notes_in_lines : (s : ScriptValue) (notes : List NoteValue) → length notes ≤ length (flat_map (note_line s) notes)
notes_in_lines s [] = omega arith
notes_in_lines s (note ∷ notes) =
    let more = notes_in_lines s notes in
    simp length-append (omega (arith, more))

notes_in_bytes : (text : List ℕ) (s : ScriptValue) (notes : List NoteValue) → IsTrace text s notes → length notes ≤ length text
notes_in_bytes text s notes (front, same, accepted, named) =
    let more = notes_in_lines s notes in
    let sizes = ap (λ (b : List ℕ). length b) same in
    let parts = simp length-append at sizes in
    omega (arith, more, parts)

pub few_notes : (told : Option (List ℕ)) (s : ScriptValue) (notes : List NoteValue) → IsReadAs told s notes → length notes + 1 < 2 ^ 32
few_notes told s notes (text, told_so, (is, fits)) = let few = notes_in_bytes text s notes is in omega (arith, few, fits)

pub named_notes : (told : Option (List ℕ)) (s : ScriptValue) (notes : List NoteValue) → IsReadAs told s notes → All (CanBeWritten s) notes
named_notes told s notes (text, told_so, ((front, same, accepted, named), fits)) = named
