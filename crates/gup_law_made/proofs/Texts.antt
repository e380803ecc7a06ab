-- A text of right lines with one line more, which is made of plain words.
use Rattle.std.proofs.Common.{◌≡◌, ◌≢◌, ℕ, ◌*◌, ◌≤◌, ◌&&◌, Bool, true, false, leb, List, [], ◌∷◌, ◌++◌, length, codes, All, refl, sym, subst, inr, arith}
use Rattle.std.specs.Prelude.{◌==◌}
use Rattle.std.specs.List.{list_all, AllByRecursion, join_with_byte}
use Rattle.std.proofs.lemmas.Bool.Decides.{nat_tests}
use Rattle.std.proofs.lemmas.List.{length-append}
use Rattle.std.proofs.lemmas.List.Elements.{All-from_recursion, All-weaker, All-nil, All-cons, All-append}
use Rattle.gup_spec_grammar.specs.Spelling.{IsPrintable, Lacks, parts}
use Rattle.gup_spec_grammar.specs.Said.{Word}
use Rattle.gup_spec_grammar.specs.Grammar.{Stage, before_head, IsSaid, SaysNothing, IsRightLine, AreRightLines}
use Rattle.gup_law_made.proofs.Cuts.{line_more, words_parted}

-- ---- plain words: those that have no space, and at most 30 bytes

abbrev pub is_plain_byte : ℕ → Bool
is_plain_byte b = leb 33 b && leb b 126

abbrev pub is_plain : Word → Bool
is_plain word = list_all is_plain_byte word && leb (length word) 30

abbrev pub IsPlain : Word → Type 0
IsPlain word = is_plain word ≡ true

-- the words have a first byte, which doesn't begin a comment
abbrev pub Starts : List Word → Type 0
Starts [] = ⊥
Starts ([] ∷ words) = ⊥
Starts ((c ∷ cs) ∷ words) = (c == 35) ≡ false

abbrev pub ArePlain : List Word → Type 0
ArePlain words = AllByRecursion IsPlain words × Starts words

abbrev IsPlainByte : ℕ → Type 0
IsPlainByte b = (33 ≤ b) × (b ≤ 126)

bytes_plain : (word : Word) → list_all is_plain_byte word ≡ true → AllByRecursion IsPlainByte word
bytes_plain [] e = tt
bytes_plain (b ∷ word) e =
    let here : is_plain_byte b ≡ true = grind arith in
    let rest : list_all is_plain_byte word ≡ true = grind arith in
    ((grind (arith, nat_tests), grind (arith, nat_tests)), bytes_plain word rest)

word_plain : (word : Word) → IsPlain word → All IsPlainByte word
word_plain word e =
    let each : list_all is_plain_byte word ≡ true = grind arith in
    All-from_recursion IsPlainByte word (bytes_plain word each)

word_short : (word : Word) → IsPlain word → length word ≤ 30
word_short word e =
    let short : leb (length word) 30 ≡ true = grind arith in
    grind (arith, nat_tests)

abbrev IsPrintableByte : ℕ → Type 0
IsPrintableByte b = (32 ≤ b) × (b ≤ 126)

word_printable : (word : Word) → IsPlain word → IsPrintable word
word_printable word e = All-weaker IsPlainByte IsPrintableByte (λ b h. (omega (arith, h.0), h.1)) word (word_plain word e)

word_spaceless : (word : Word) → IsPlain word → Lacks 32 word
word_spaceless word e = All-weaker IsPlainByte (λ b. b ≢ 32) (λ b h. λ same. absurd (omega (arith, h.0))) word (word_plain word e)

words_spaceless : (words : List Word) → AllByRecursion IsPlain words → AllByRecursion (Lacks 32) words
words_spaceless [] h = tt
words_spaceless (word ∷ words) h = (word_spaceless word h.0, words_spaceless words h.1)

-- ---- a line of plain words

line_printable : (words : List Word) → AllByRecursion IsPlain words → IsPrintable (join_with_byte 32 words)
line_printable [] h = All-nil IsPrintableByte
line_printable (word ∷ []) h = word_printable word h.0
line_printable (word ∷ second ∷ words) h =
    let line = join_with_byte 32 (second ∷ words) in
    All-append IsPrintableByte word (32 ∷ line) (word_printable word h.0) (All-cons IsPrintableByte 32 line (omega arith, omega arith) (line_printable (second ∷ words) h.1))

pub line_short : (words : List Word) → AllByRecursion IsPlain words → length (join_with_byte 32 words) ≤ 31 * length words
line_short [] h = omega arith
line_short (word ∷ []) h = let short = word_short word h.0 in omega arith
line_short (word ∷ second ∷ words) h =
    let line = join_with_byte 32 (second ∷ words) in
    let short = word_short word h.0 in
    let rest = line_short (second ∷ words) h.1 in
    omega (arith, length-append word (32 ∷ line))

line_says : (words : List Word) → Starts words → SaysNothing (join_with_byte 32 words) → ⊥
line_says [] h nothing = h
line_says ([] ∷ words) h nothing = h
line_says ((c ∷ cs) ∷ []) h nothing = grind (arith, nat_tests)
line_says ((c ∷ cs) ∷ second ∷ words) h nothing = grind (arith, nat_tests)

parted : (words : List Word) → ArePlain words → parts 32 (join_with_byte 32 words) ≡ words
parted [] h = absurd h.1
parted (first ∷ more) h = words_parted first more (words_spaceless (first ∷ more) h.0)

right_line : (stage next : Stage) (words : List Word) → ArePlain words → IsSaid stage words next → IsRightLine stage (join_with_byte 32 words) next
right_line stage next words h said =
    (line_printable words h.0, inr (line_says words h.1, subst (λ (ws : List Word). IsSaid stage ws next) (sym (parted words h)) said))

-- ---- the text

lines_more : (stage between next : Stage) (lines : List (List ℕ)) (line : List ℕ) → AreRightLines stage lines between → IsRightLine between line next → AreRightLines stage (lines ++ line ∷ []) next
lines_more stage between next [] line before last = (next, subst (λ (s : Stage). IsRightLine s line next) before last, refl)
lines_more stage between next (first ∷ lines) line before last = (before.0, before.1, lines_more before.0 between next lines line before.2 last)

-- the text's lines are right, and lead here
pub record IsText (text : List ℕ) (stage : Stage) : Type 0 where
  pub lines : List (List ℕ)
  pub cut : parts 10 text ≡ lines ++ [] ∷ []
  pub right : AreRightLines before_head lines stage

pub no_text : IsText [] before_head
no_text = record { lines = []; cut = refl; right = refl }

pub text_more : (text : List ℕ) (stage next : Stage) (words : List Word) → IsText text stage → ArePlain words → IsSaid stage words next → IsText (text ++ (join_with_byte 32 words ++ codes "\n")) next
text_more text stage next words h plain said =
    let line = join_with_byte 32 words in
    let lacks : Lacks 10 line = All-weaker IsPrintableByte (λ b. b ≢ 10) (λ b p. λ same. absurd (omega (arith, p.0))) line (line_printable words plain.0) in
    record {
      lines = h.lines ++ line ∷ [];
      cut = line_more text line h.lines h.cut lacks;
      right = lines_more before_head stage next h.lines line h.right (right_line stage next words plain said);
    }
