-- What words begin with.
use Rattle.std.proofs.Common.{◌≡◌, ℕ, ◌-◌, ◌<◌, ◌≤◌, Bool, true, false, List, [], ◌∷◌, ◌++◌, Some, None, length, map, take, drop, get_or, take_all, refl, sym, ap, ap₂, subst, ◌∙◌, arith}
use Rattle.std.specs.Prelude.{decimal, ◌==◌}
use Rattle.std.specs.List.{position_or_len, before_first, after_first}
use Rattle.std.specs.Str.{bytes_eq}
use Rattle.std.proofs.lemmas.Bool.{ltb-true, lt-ltb, eqb-true}
use Rattle.std.proofs.lemmas.Slice.Eq.{bytes_eq-Decides}
use Rattle.gup_read_words.specs.Text.{is_name, page_in, count_in}
use Rattle.gup_read_words.proofs.Cuts.{is_byte, IsCut, cut_found, cut_read}
use Rattle.gup_read_words.proofs.SpelledNames.{name_found, name_read}
use Rattle.gup_read_words.proofs.SpelledNumbers.{count_found, count_read, page_found, page_read}
use Rattle.gup_spec_grammar.specs.Spelling.{IsCount}
use Rattle.gup_picture.specs.Asking.{IsPageWord, last_turn}
use Rattle.gup_picture.proofs.Asking.{name_lacks}

-- ---- one word

pub word_is : (w text : List ℕ) (b : Bool) → b ≡ bytes_eq w text → b ≡ true → w ≡ text
word_is w text b tested passed = (bytes_eq-Decides w text).0 (sym tested ∙ passed)

-- ---- a turn

pub turn_found : (most n : ℕ) (word : List ℕ) → most ≡ last_turn → Some n ≡ count_in 1 most word → IsCount 1 last_turn word n
turn_found most n word is found = subst (λ (m : ℕ). IsCount 1 m word n) is (count_found 1 most word n (sym found))

pub no_turn : (most n : ℕ) (word : List ℕ) → most ≡ last_turn → None ≡ count_in 1 most word → IsCount 1 last_turn word n → ⊥
no_turn most n word is none counts =
    let read : count_in 1 most word ≡ Some n = count_read 1 most word n (omega arith) (subst (λ (m : ℕ). IsCount 1 m word n) (sym is) counts) in
    absurd (cc)

-- ---- a page

page_cut : (word process : List ℕ) (page : ℕ) → IsPageWord word process page → IsCut 46 word process (decimal page)
page_cut word process page is = subst (λ (w : List ℕ). IsCut 46 w process (decimal page)) (sym is.0) (cut_read 46 process (decimal page) (name_lacks process is.1))

pub no_dot : (word process : List ℕ) (page : ℕ) → position_or_len (is_byte 46) word ≡ length word → IsPageWord word process page → ⊥
no_dot word process page past is =
    let within = ltb-true _ _ (page_cut word process page is).within in
    omega (arith, within, past)

pub no_name : (word first process : List ℕ) (page : ℕ) → first ≡ before_first (is_byte 46) word → is_name first ≡ false → IsPageWord word process page → ⊥
no_name word first process page before none is =
    let named : is_name process ≡ true = name_read process is.1 in
    let same : first ≡ process = before ∙ (page_cut word process page is).before_is in
    let also : is_name first ≡ true = ap is_name same ∙ named in
    absurd (cc)

pub no_page : (word rest process : List ℕ) (page : ℕ) → rest ≡ after_first (is_byte 46) word → None ≡ page_in rest → IsPageWord word process page → ⊥
no_page word rest process page after none is =
    let spelled : rest ≡ decimal page = after ∙ (page_cut word process page is).after_is in
    let read : page_in rest ≡ Some page = page_read rest page (spelled, is.2) in
    absurd (cc)

pub page_there : (word first rest : List ℕ) (page : ℕ) → position_or_len (is_byte 46) word < length word → first ≡ before_first (is_byte 46) word → rest ≡ after_first (is_byte 46) word → is_name first ≡ true → Some page ≡ page_in rest → IsPageWord word first page
page_there word first rest page within before after named found =
    let number = page_found rest page (sym found) in
    let cut = (cut_found 46 word (lt-ltb _ _ within)).0 in
    (cut ∙ ap₂ (λ (b a : List ℕ). b ++ (46 ∷ []) ++ a) (sym before) (sym after ∙ number.0), name_found first named, number.1)

-- ---- the first words

pub first_of : {X : Type 0} (f : X → List ℕ) (xs : List X) (x : X) → 1 ≤ length xs → x ≡ get_or xs 0 x → map f xs ≡ f x ∷ map f (take (length xs - 1) (drop 1 xs))
first_of f [] x some is = absurd (omega arith)
first_of f (y ∷ ys) x some is = ap₂ (λ v vs. f v ∷ map f vs) (sym is) (sym (take_all (length (y ∷ ys) - 1) ys (omega arith)))

pub first_is : {X : Type 0} (f : X → List ℕ) (xs : List X) (x : X) (w text : List ℕ) (b : Bool) → 1 ≤ length xs → x ≡ get_or xs 0 x → w ≡ f x → b ≡ bytes_eq w text → b ≡ true → map f xs ≡ text ∷ map f (take (length xs - 1) (drop 1 xs))
first_is f xs x w text b some is value tested passed =
    first_of f xs x some is ∙ ap (λ (v : List ℕ). v ∷ map f (take (length xs - 1) (drop 1 xs))) (sym value ∙ word_is w text b tested passed)

-- ---- whether words are left

pub some_left : {X : Type 0} (f : X → List ℕ) (xs : List X) (b : Bool) → b ≡ (length xs == 0) → b ≡ false → map f xs ≡ [] → ⊥
some_left f [] b tested left none = let same : true ≡ false = sym tested ∙ left in absurd (cc)
some_left f (x ∷ xs) b tested left none = absurd (cc)

pub none_left : {X : Type 0} (f : X → List ℕ) (xs : List X) (b : Bool) → b ≡ (length xs == 0) → b ≡ true → map f xs ≡ []
none_left f [] b tested none = refl
none_left f (x ∷ xs) b tested none = let zero : length (x ∷ xs) ≡ 0 = eqb-true (length (x ∷ xs)) 0 (sym tested ∙ none) in absurd (omega (arith, zero))
