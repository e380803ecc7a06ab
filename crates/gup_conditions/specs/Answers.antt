-- Which answers an operation can give, by the words of their texts.
use Rattle.std.specs.Prelude.{ℕ, ◌-◌, ◌==◌, length, Bool, true, false, ◌&&◌, ◌||◌, List, [], ◌∷◌, codes, is_some}
use Rattle.std.specs.List.{list_all}
use Rattle.std.specs.Str.{bytes_eq}
use Rattle.gup_base.specs.Parts.{words_of}
use Rattle.gup_script.specs.declared.op.Op.{Op}
use Rattle.gup_script.specs.declared.op.Op.TheVariants.{Load, Look, Pin, Transfer}
use Rattle.gup_read_words.specs.Text.{number_in, count_in}

-- a number below 2^64
abbrev pub is_number : List ℕ → Bool
is_number word = is_some (number_in word)

-- a number from the least to the most
abbrev pub is_within : (least most : ℕ) → List ℕ → Bool
is_within least most word = is_some (count_in least most word)

-- a word that says how many references a page's frame has
abbrev pub is_counting : List ℕ → Bool
is_counting word = bytes_eq word (codes "unmovable") || bytes_eq word (codes "busy")

abbrev pub is_refusing : List ℕ → Bool
is_refusing word =
    bytes_eq word (codes "missing") || bytes_eq word (codes "forbidden") || bytes_eq word (codes "noframe") || bytes_eq word (codes "notheld")
    || bytes_eq word (codes "range") || bytes_eq word (codes "overlap") || bytes_eq word (codes "full") || bytes_eq word (codes "untouched")
    || bytes_eq word (codes "stale") || bytes_eq word (codes "unborn")

-- a refusal, of any operation
abbrev pub is_refusal : List (List ℕ) → Bool
is_refusal [] = false
is_refusal (word ∷ []) = is_refusing word
is_refusal (word ∷ count ∷ []) = is_counting word && is_number count
is_refusal words = false

-- why a pin stopped short
abbrev pub is_cause : List (List ℕ) → Bool
is_cause [] = false
is_cause (word ∷ []) = bytes_eq word (codes "missing") || bytes_eq word (codes "forbidden") || bytes_eq word (codes "noframe")
is_cause (word ∷ count ∷ []) = bytes_eq word (codes "unmovable") && is_number count
is_cause words = false

-- ---- what stands behind `ok`

abbrev pub is_nothing : List (List ℕ) → Bool
is_nothing [] = true
is_nothing (word ∷ words) = false

abbrev pub is_one_number : List (List ℕ) → Bool
is_one_number [] = false
is_one_number (word ∷ []) = is_number word
is_one_number words = false

-- all n pages of a pin, or fewer and why
abbrev pub are_pinned : (n : ℕ) → List (List ℕ) → Bool
are_pinned n [] = false
are_pinned n (pages ∷ []) = is_within n n pages
are_pinned n (got ∷ of ∷ []) = false
are_pinned n (got ∷ of ∷ wanted ∷ cause) =
    is_within 1 (n - 1) got && bytes_eq of (codes "of") && is_within n n wanted && is_cause cause

-- so many words of a transfer
abbrev pub are_moved : (n : ℕ) → List (List ℕ) → Bool
are_moved n words = (length words == n) && list_all is_number words

abbrev pub can_follow : Op → List (List ℕ) → Bool
can_follow (Load page word) words = is_one_number words
can_follow (Look mirror word) words = is_one_number words
can_follow (Pin handle page n want fast) words = are_pinned n words
can_follow (Transfer handle outward slot parts) words = are_moved (words_of parts) words
can_follow op words = is_nothing words

-- `ok`, with what the operation tells
abbrev pub is_success : Op → List (List ℕ) → Bool
is_success op [] = false
is_success op (word ∷ words) = bytes_eq word (codes "ok") && can_follow op words

abbrev pub can_answer : Op → List (List ℕ) → Bool
can_answer op words = is_refusal words || is_success op words
