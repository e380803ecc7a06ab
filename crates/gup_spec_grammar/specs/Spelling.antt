-- How numbers, pages, addresses, ranges and names are spelled.
use Rattle.std.specs.Prelude.{◌≡◌, ◌≢◌, ℕ, ◌+◌, ◌^◌, ◌<◌, ◌≤◌, ◌⊎◌, List, [], ◌∷◌, ◌++◌, length, codes, decimal, All, ◌==◌}
use Rattle.std.specs.List.{slice_split}

-- a number below 2^64, or one of a few
abbrev pub IsNumber : (word : List ℕ) → ℕ → Type 0
IsNumber word n = (word ≡ decimal n) × (n < 2 ^ 64)

abbrev pub IsCount : (least most : ℕ) (word : List ℕ) → ℕ → Type 0
IsCount least most word n = (word ≡ decimal n) × (least ≤ n) × (n ≤ most)

-- an index or a slot, below 2^32
abbrev pub IsIndex : (word : List ℕ) → ℕ → Type 0
IsIndex word n = (word ≡ decimal n) × (n < 2 ^ 32)

-- a page number, below 2^35, and a word of a page
abbrev pub IsPage : (word : List ℕ) → ℕ → Type 0
IsPage word page = (word ≡ decimal page) × (page < 2 ^ 35)

abbrev pub IsWordNo : (word : List ℕ) → ℕ → Type 0
IsWordNo word w = (word ≡ decimal w) × (w < 512)

abbrev pub address : (page w : ℕ) → List ℕ
address page w = decimal page ++ codes "." ++ decimal w

abbrev pub IsAddress : (word : List ℕ) → (page w : ℕ) → Type 0
IsAddress word page w = (word ≡ address page w) × (page < 2 ^ 35) × (w < 512)

-- n pages from the first on, at least one and at most so many, all below 2^35
abbrev pub IsRange : (most : ℕ) (first count : List ℕ) → (page n : ℕ) → Type 0
IsRange most first count page n =
    (first ≡ decimal page) × (count ≡ decimal n) × (1 ≤ n) × (n ≤ most) × (page + n ≤ 2 ^ 35)

-- so many words from an index on
abbrev pub segment : (index n : ℕ) → List ℕ
segment index n = decimal index ++ codes ":" ++ decimal n

abbrev pub IsSegment : (word : List ℕ) → (index n : ℕ) → Type 0
IsSegment word index n = (word ≡ segment index n) × (index < 2 ^ 32) × (1 ≤ n) × (n ≤ 64)

-- the byte c does not stand in the word
abbrev pub Lacks : (c : ℕ) (word : List ℕ) → Type 0
Lacks c word = All (λ b. b ≢ c) word

-- A written turn's word: a name with no star, and how often, from 1 to 1,000,000. Without a star it is once.
abbrev pub turn_word : (name : List ℕ) (times : ℕ) → List ℕ
turn_word name times = name ++ codes "*" ++ decimal times

abbrev pub IsTurnWord : (word name : List ℕ) (times : ℕ) → Type 0
IsTurnWord word name times =
    Lacks 42 name
    × (((word ≡ name) × (times ≡ 1)) ⊎ ((word ≡ turn_word name times) × (1 ≤ times) × (times ≤ 1000000)))

-- names: 1 to 16 letters and digits, the first a letter

abbrev pub IsLetter : ℕ → Type 0
IsLetter c = (97 ≤ c) × (c ≤ 122)

abbrev pub IsDigit : ℕ → Type 0
IsDigit c = (48 ≤ c) × (c ≤ 57)

abbrev pub IsName : List ℕ → Type 0
IsName [] = ⊥
IsName (c ∷ cs) = IsLetter c × All (λ b. IsLetter b ⊎ IsDigit b) cs × (length cs < 16)

-- the bytes that a line may have
abbrev pub IsPrintable : List ℕ → Type 0
IsPrintable line = All (λ b. (32 ≤ b) × (b ≤ 126)) line

-- the parts of a text between its bytes c
abbrev pub parts : ℕ → List ℕ → List (List ℕ)
parts c text = slice_split (λ b. b == c) text
