-- The lines of notes, one after another.
use Rattle.std.proofs.Common.{◌≡◌, ℕ, ◌+◌, ◌<◌, List, [], ◌∷◌, ◌++◌, length, take, get_or, sym, ap, subst, ◌∙◌, append_assoc, append-nil}
use Rattle.std.specs.List.{All, flat_map}
use Rattle.std.proofs.lemmas.List.{take_more}
use Rattle.std.proofs.lemmas.List.Concat.{flat_map-append}
use Rattle.std.proofs.lemmas.List.Elements.{All-push}
use Rattle.gup_plain.specs.Note.{NoteValue}
use Rattle.gup_script.specs.Script.{ScriptValue}
use Rattle.gup_spec_trace.specs.Kept.{IsKept}
use Rattle.gup_spec_trace.specs.Note.{note_line}

-- the notes up to the next one
next_notes : (notes : List NoteValue) (k : ℕ) (note : NoteValue) → k < length notes → note ≡ get_or notes k note → take (k + 1) notes ≡ take k notes ++ note ∷ []
next_notes notes k note there is = take_more notes k note there ∙ ap (λ n. take k notes ++ n ∷ []) (sym is)

pub more_lines : (script : ScriptValue) (notes : List NoteValue) (k : ℕ) (note : NoteValue) (first old new : List ℕ) → k < length notes → note ≡ get_or notes k note → old ≡ first ++ flat_map (note_line script) (take k notes) → new ≡ old ++ note_line script note → new ≡ first ++ flat_map (note_line script) (take (k + 1) notes)
more_lines script notes k note first old new there is lines more =
    let line = note_line script in
    let one : flat_map line (note ∷ []) ≡ line note = append-nil (line note) in
    let all : flat_map line (take (k + 1) notes) ≡ flat_map line (take k notes) ++ line note =
    ap (flat_map line) (next_notes notes k note there is) ∙ flat_map-append line (take k notes) (note ∷ []) ∙ ap (λ xs. flat_map line (take k notes) ++ xs) one in
    more ∙ ap (λ xs. xs ++ line note) lines ∙ append_assoc first (flat_map line (take k notes)) (line note) ∙ ap (λ xs. first ++ xs) (sym all)

pub more_kept : (notes : List NoteValue) (k : ℕ) (note : NoteValue) → k < length notes → note ≡ get_or notes k note → All IsKept (take k notes) → IsKept note → All IsKept (take (k + 1) notes)
more_kept notes k note there is kept one = subst (All IsKept) (sym (next_notes notes k note there is)) (All-push IsKept (take k notes) note kept one)
