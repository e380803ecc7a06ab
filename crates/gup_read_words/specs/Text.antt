-- Words, numbers, names and addresses in a text, as functions.
use Rattle.std.specs.Prelude.{ℕ, ◌+◌, ◌^◌, Bool, true, false, ◌&&◌, ◌||◌, ◌==◌, nat_lt, nat_le, if◌then◌else◌, List, [], ◌∷◌, length, decimal, Option, Some, None, option_and_then}
use Rattle.std.specs.Char.{is_ascii_lowercase, is_ascii_digit}
use Rattle.std.specs.List.{list_all, position_or_len, before_first, after_first}
use Rattle.std.specs.Str.{bytes_eq}
use Rattle.std.specs.Str.Parse.{digits_value}

-- one step after another, while each gives something
infixl 10 ◌>>=◌
abbrev pub ◌>>=◌ : {A B : Type 0} → Option A → (A → Option B) → Option B
o >>= f = option_and_then f o

-- are all bytes such that a line may have them?
abbrev pub is_printable_byte : ℕ → Bool
is_printable_byte b = nat_le 32 b && nat_le b 126

abbrev pub is_printable : List ℕ → Bool
is_printable line = list_all is_printable_byte line

-- the line is empty or a comment
abbrev pub is_passed : List ℕ → Bool
is_passed [] = true
is_passed (c ∷ cs) = c == 35

-- no word is empty: no space is at the front, at the end, or next to another
abbrev pub is_some_word : List ℕ → Bool
is_some_word [] = false
is_some_word (c ∷ cs) = true

abbrev pub are_spaced : List (List ℕ) → Bool
are_spaced words = list_all is_some_word words

-- the number below 2^64 whose decimal text the word is
unfoldable pub number_in : List ℕ → Option ℕ
number_in word =
    let n = digits_value 10 word in
    if nat_lt n (2 ^ 64) && bytes_eq (decimal n) word then Some n else None

-- a plus stands in front, or a zero before another byte
unfoldable pub is_padded : List ℕ → Bool
is_padded [] = false
is_padded (c ∷ cs) = c == 43 || (c == 48 && nat_lt 0 (length cs))

unfoldable pub count_in : (least most : ℕ) → List ℕ → Option ℕ
count_in least most word = do
  n ← number_in word
  if nat_le least n && nat_le n most then Some n else None

unfoldable pub index_in : List ℕ → Option ℕ
index_in word = do
  n ← number_in word
  if nat_lt n (2 ^ 32) then Some n else None

unfoldable pub page_in : List ℕ → Option ℕ
page_in word = do
  n ← number_in word
  if nat_lt n (2 ^ 35) then Some n else None

unfoldable pub word_no_in : List ℕ → Option ℕ
word_no_in word = do
  n ← number_in word
  if nat_lt n 512 then Some n else None

-- the page and the word of an address, from the texts before and after the dot
unfoldable pub page_and_word_in : List ℕ → List ℕ → Option (ℕ × ℕ)
page_and_word_in before after = do
  page ← page_in before
  word ← word_no_in after
  Some (page, word)

abbrev pub is_dot : ℕ → Bool
is_dot b = b == 46

unfoldable pub address_in : List ℕ → Option (ℕ × ℕ)
address_in text =
    if nat_lt (position_or_len is_dot text) (length text) then page_and_word_in (before_first is_dot text) (after_first is_dot text)
    else None

-- a page and how many pages from it on, at most so many
unfoldable pub range_in : (most : ℕ) → List ℕ → List ℕ → Option (ℕ × ℕ)
range_in most first count = do
  page ← page_in first
  n ← number_in count
  if nat_le 1 n && (nat_le n most && nat_le (page + n) (2 ^ 35)) then Some (page, n) else None

-- an index and how many words from it on
unfoldable pub index_and_count_in : List ℕ → List ℕ → Option (ℕ × ℕ)
index_and_count_in before after = do
  index ← index_in before
  n ← count_in 1 64 after
  Some (index, n)

abbrev pub is_colon : ℕ → Bool
is_colon b = b == 58

unfoldable pub segment_in : List ℕ → Option (ℕ × ℕ)
segment_in text =
    if nat_lt (position_or_len is_colon text) (length text) then index_and_count_in (before_first is_colon text) (after_first is_colon text)
    else None

-- A written turn's word: a name, and how often, from 1 to 1,000,000. Without a star it is once.
abbrev pub is_star : ℕ → Bool
is_star b = b == 42

abbrev pub most_times : ℕ
most_times = 1000000

unfoldable pub turn_name : List ℕ → List ℕ
turn_name word = before_first is_star word

unfoldable pub turn_times : List ℕ → Option ℕ
turn_times word =
    if nat_lt (position_or_len is_star word) (length word) then count_in 1 most_times (after_first is_star word)
    else Some 1

abbrev pub is_name_byte : ℕ → Bool
is_name_byte b = is_ascii_lowercase b || is_ascii_digit b

unfoldable pub is_name : List ℕ → Bool
is_name [] = false
is_name (c ∷ cs) = is_ascii_lowercase c && (nat_lt (length cs) 16 && list_all is_name_byte cs)
