-- A line and its note, both ways.
use Rattle.std.specs.Prelude.{codes}
use Rattle.std.proofs.Common.{◌≡◌, ◌==◌, ℕ, ◌≤◌, false, List, [], ◌∷◌, ◌++◌, All, Option, Some, None, MatchOption, refl, sym, ap, ◌∙◌, arith}
use Rattle.std.specs.List.{join_with_byte}
use Rattle.std.proofs.lemmas.Bool.{ne_eqb}
use Rattle.std.proofs.lemmas.List.{append_cancel_right}
use Rattle.std.proofs.lemmas.List.Elements.{All-from_recursion, All-weaker, All-nil, All-cons, All-append}
use Rattle.std.proofs.lemmas.List.Splits.{join_with_byte-slice_split, slice_split_at, slice_split_none}
use Rattle.gup_plain.specs.Note.{NoteValue}
use Rattle.gup_script.specs.Script.{ScriptValue}
use Rattle.gup_spec_grammar.specs.Said.{Word as Letters}
use Rattle.gup_spec_grammar.specs.Spelling.{IsPrintable, parts}
use Rattle.gup_spec_trace.specs.Names.{AreNames}
use Rattle.gup_spec_trace.specs.Trace.{IsLineOf, IsNoLine}
use Rattle.gup_read_words.specs.Text.{is_printable}
use Rattle.gup_read_words.proofs.SpelledNames.{printable_read}
use Rattle.gup_read_words.proofs.Steps.{way_taken}
use Rattle.gup_read_notes.specs.Reading.{note_in, read_in}
use Rattle.gup_read_notes.proofs.FoundNotes.{note_gives}
use Rattle.gup_read_notes.proofs.PlainWords.{IsPlain, ArePlain, plain_bytes, note_plain}
use Rattle.gup_read_notes.proofs.ReadNotes.{note_again}
use Rattle.gup_read_notes.proofs.Words.{note_words, line_joined}

-- ---- words with a space between two

abbrev IsPrintableByte : ℕ → Type 0
IsPrintableByte b = (32 ≤ b) × (b ≤ 126)

word_printable : (word : Letters) → IsPlain word → IsPrintable word
word_printable word e =
    All-weaker (λ b. (33 ≤ b) × (b ≤ 126)) IsPrintableByte (λ b h. (omega (arith, h.0), h.1)) word (All-from_recursion (λ b. (33 ≤ b) × (b ≤ 126)) word (plain_bytes word e))

no_space : (word : Letters) → IsPlain word → All (λ b. (b == 32) ≡ false) word
no_space word e =
    All-weaker (λ b. (33 ≤ b) × (b ≤ 126)) (λ b. (b == 32) ≡ false) (λ b h. ne_eqb b 32 (λ same. absurd (omega (arith, h.0)))) word (All-from_recursion (λ b. (33 ≤ b) × (b ≤ 126)) word (plain_bytes word e))

line_printable : (words : List Letters) → ArePlain words → IsPrintable (join_with_byte 32 words)
line_printable [] h = All-nil IsPrintableByte
line_printable (word ∷ []) h = word_printable word h.0
line_printable (word ∷ second ∷ words) h =
    let line = join_with_byte 32 (second ∷ words) in
    All-append IsPrintableByte word (32 ∷ line) (word_printable word h.0) (All-cons IsPrintableByte 32 line (omega arith, omega arith) (line_printable (second ∷ words) h.1))

line_parted : (first : Letters) (more : List Letters) → ArePlain (first ∷ more) → parts 32 (join_with_byte 32 (first ∷ more)) ≡ first ∷ more
line_parted first [] h = slice_split_none (λ b. b == 32) first (no_space first h.0)
line_parted first (second ∷ more) h =
    slice_split_at (λ b. b == 32) first 32 (join_with_byte 32 (second ∷ more)) (no_space first h.0) refl
    ∙ ap (λ (s : List Letters). first ∷ s) (line_parted second more h.1)

-- ---- a line and its note

pub line_found : (s : ScriptValue) (line : List ℕ) (note : NoteValue) → read_in s line ≡ Some note → IsLineOf s line note
unfolding read_in
line_found s line note e =
    let way = way_taken (is_printable line) (note_in s (parts 32 line)) note e in
    let found = (note_gives s (parts 32 line)).gives note way.1 in
    let whole : line ≡ join_with_byte 32 (note_words s note) = sym (join_with_byte-slice_split 32 line) ∙ ap (join_with_byte 32) found.0 in
    (found.1, ap (λ (t : List ℕ). t ++ codes "\n") whole ∙ sym (line_joined s note))

line_again : (s : ScriptValue) → AreNames s → (note : NoteValue) → IsLineOf s (join_with_byte 32 (note_words s note)) note → read_in s (join_with_byte 32 (note_words s note)) ≡ Some note
unfolding read_in
line_again s names note is =
    let plain = note_plain s names note is.0 in
    rw (printable_read (join_with_byte 32 (note_words s note)) (line_printable (note_words s note) plain))
    (ap (note_in s) (line_parted _ _ plain) ∙ note_again s names note is.0)

pub line_read : (s : ScriptValue) → AreNames s → (line : List ℕ) (note : NoteValue) → IsLineOf s line note → read_in s line ≡ Some note
line_read s names line note is =
    let joined = join_with_byte 32 (note_words s note) in
    let whole : line ≡ joined = append_cancel_right line joined (codes "\n") (is.1 ∙ line_joined s note) in
    ap (read_in s) whole ∙ line_again s names note (is.0, sym (line_joined s note))

pub line_told : (s : ScriptValue) → AreNames s → (line : List ℕ) (found : Option NoteValue) → found ≡ read_in s line → MatchOption found (IsNoLine s line) (λ note. IsLineOf s line note)
line_told s names line None e = λ note is. absurd (cc (line_read s names line note is))
line_told s names line (Some note) e = line_found s line note (sym e)

pub one_note : (s : ScriptValue) (line : List ℕ) (m n : NoteValue) → AreNames s → IsLineOf s line m → IsLineOf s line n → m ≡ n
one_note s line m n names a b =
    let e = line_read s names line m a in
    let f = line_read s names line n b in
    cc
