-- Bytes of which so many notes are read.
use Rattle.std.proofs.Common.{◌≡◌, ℕ, ◌+◌, ◌<◌, ◌≤◌, List, [], ◌∷◌, ◌++◌, length, codes, append_assoc, append-nil, All, refl, sym, ap, ◌∙◌, arith}
use Rattle.std.specs.List.{flat_map}
use Rattle.std.proofs.lemmas.List.{length_push, length-append}
use Rattle.std.proofs.lemmas.List.Concat.{flat_map-append}
use Rattle.std.proofs.lemmas.List.Elements.{All-nil, All-push}
use Rattle.gup_plain.specs.Note.{NoteValue}
use Rattle.gup_script.specs.Script.{ScriptValue}
use Rattle.gup_spec_grammar.specs.declared.fault.Reason.TheVariants.{Note}
use Rattle.gup_spec_trace.specs.Note.{note_line}
use Rattle.gup_spec_trace.specs.Written.{CanBeWritten}
use Rattle.gup_spec_trace.specs.Trace.{IsNoNote, NoteFault}
use Rattle.gup_read_trace.specs.Notes.{AreNotes}
use Rattle.gup_read_trace.proofs.NoteLines.{note_words}

pub record AreTaken (s : ScriptValue) (text : List ℕ) (lines : ℕ) (notes : List NoteValue) (number : ℕ) (rest : List ℕ) : Type 0 where
  pub text_is : text ≡ flat_map (note_line s) notes ++ rest
  pub written : All (CanBeWritten s) notes
  pub count : number ≡ lines + 1 + length notes + 1

pub none_taken : (s : ScriptValue) (text : List ℕ) (lines : ℕ) (notes : List NoteValue) → notes ≡ [] → AreTaken s text lines notes (lines + 2) text
none_taken s text lines notes none = rw none (record { text_is = refl; written = All-nil (CanBeWritten s); count = omega arith })

pub one_taken : (s : ScriptValue) (text : List ℕ) (lines : ℕ) (notes : List NoteValue) (number : ℕ) (rest : List ℕ) (note : NoteValue) (behind : List ℕ) → AreTaken s text lines notes number rest → CanBeWritten s note → rest ≡ note_line s note ++ behind → AreTaken s text lines (notes ++ note ∷ []) (number + 1) behind
one_taken s text lines notes number rest note behind h can is =
    let line = note_line s note in
    let done = flat_map (note_line s) notes in
    let more : flat_map (note_line s) (notes ++ note ∷ []) ≡ done ++ line =
    flat_map-append (note_line s) notes (note ∷ []) ∙ ap (λ (xs : List ℕ). done ++ xs) (append-nil line) in
    record {
      text_is = h.text_is ∙ ap (λ (xs : List ℕ). done ++ xs) is ∙ sym (append_assoc done line behind) ∙ ap (λ (xs : List ℕ). xs ++ behind) (sym more);
      written = All-push (CanBeWritten s) notes note h.written can;
      count = let count = h.count in omega (arith, length_push notes note);
    }

line_some : (s : ScriptValue) (note : NoteValue) → 1 ≤ length (note_line s note)
line_some s note = omega (arith, length-append (note_words s note) (codes "\n"))

notes_few : (s : ScriptValue) (notes : List NoteValue) → length notes ≤ length (flat_map (note_line s) notes)
notes_few s [] = omega arith
notes_few s (note ∷ notes) =
    let rest = notes_few s notes in
    let some = line_some s note in
    omega (arith, length-append (note_line s note) (flat_map (note_line s) notes))

pub number_below : (s : ScriptValue) (text : List ℕ) (lines : ℕ) (notes : List NoteValue) (number : ℕ) (rest : List ℕ) → AreTaken s text lines notes number rest → number + length rest ≤ lines + 2 + length text
number_below s text lines notes number rest h =
    let few = notes_few s notes in
    let count = h.count in
    omega (arith, ap length h.text_is, length-append (flat_map (note_line s) notes) rest)

pub line_shorter : (s : ScriptValue) (note : NoteValue) (rest behind : List ℕ) → rest ≡ note_line s note ++ behind → length behind < length rest
line_shorter s note rest behind is =
    let some = line_some s note in
    omega (arith, ap length is, length-append (note_line s note) behind)

no_more : (rest : List ℕ) → length rest ≡ 0 → rest ≡ []
no_more [] e = refl
no_more (c ∷ rest) e = absurd (omega arith)

pub all_taken : (s : ScriptValue) (text : List ℕ) (lines : ℕ) (notes : List NoteValue) (number : ℕ) (rest : List ℕ) → AreTaken s text lines notes number rest → length rest ≡ 0 → AreNotes s text notes
all_taken s text lines notes number rest h e =
    let done = flat_map (note_line s) notes in
    (h.text_is ∙ ap (λ (xs : List ℕ). done ++ xs) (no_more rest e) ∙ append-nil done, h.written)

pub wrong_note : (s : ScriptValue) (text : List ℕ) (lines : ℕ) (notes : List NoteValue) (number : ℕ) (rest : List ℕ) → AreTaken s text lines notes number rest → (length rest ≡ 0 → ⊥) → IsNoNote s rest → NoteFault s lines text (record { line = number; reason = Note })
wrong_note s text lines notes number rest h some none = (notes, rest, h.text_is, (λ e. some (ap length e)), h.written, none, h.count, refl)
