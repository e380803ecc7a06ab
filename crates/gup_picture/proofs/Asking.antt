-- Words ask one thing at most: no two options have the same words, and none begins another one's.
use Rattle.std.proofs.Common.{◌≡◌, ℕ, true, false, List, [], ◌∷◌, ◌++◌, refl, sym, ap, ap₂, subst, ◌∙◌, arith, inl, inr}
use Rattle.std.specs.Prelude.{codes, decimal, ◌⊎◌, ◌≢◌}
use Rattle.std.specs.List.{flat_map, before_first, after_first}
use Rattle.std.specs.Str.{bytes_eq}
use Rattle.std.proofs.lemmas.Slice.Eq.{bytes_eq-Decides}
use Rattle.std.proofs.lemmas.Fmt.{decimal_injective}
use Rattle.std.proofs.lemmas.List.Elements.{All-cons, All-weaker}
use Rattle.gup_spec_grammar.specs.Spelling.{IsName, IsLetter, IsDigit, Lacks}
use Rattle.gup_read_words.proofs.Cuts.{is_byte, cut_read}
use Rattle.gup_picture.specs.Asking.{PageOf, page_word, Choice, as_svg, with_frames, from_turn, to_turn, page_alone, words_of, CanBeSaid, Wish, nothing, IsNew, with_choice, Ask, IsAskedFrom}
use Rattle.gup_picture.specs.Choices.{IsFirst, BeginsWithNone}

-- ---- the page's word

abbrev IsOther : ℕ → Type 0
IsOther b = b ≢ 46

pub name_lacks : (word : List ℕ) → IsName word → Lacks 46 word
name_lacks [] h = absurd h
name_lacks (c ∷ cs) h =
    All-cons IsOther c cs (λ same. let low = h.0.0 in absurd (omega arith))
    (All-weaker (λ b. IsLetter b ⊎ IsDigit b) IsOther other cs h.1)
  where
    other : (b : ℕ) → IsLetter b ⊎ IsDigit b → IsOther b
    other b (inl letter) same = let low = letter.0 in absurd (omega arith)
    other b (inr digit) same = let low = digit.0 in absurd (omega arith)

-- what stands before and behind the dot
pub page_parts : (word process : List ℕ) (page : ℕ) → word ≡ page_word process page → IsName process → (before_first (is_byte 46) word ≡ process) × (after_first (is_byte 46) word ≡ decimal page)
page_parts word process page is named =
    let cut = cut_read 46 process (decimal page) (name_lacks process named) in
    (ap (before_first (is_byte 46)) is ∙ cut.before_is, ap (after_first (is_byte 46)) is ∙ cut.after_is)

abbrev page_at : List ℕ → ℕ → PageOf
page_at process page = record { process = process; page = page }

one_page : (a b : PageOf) → page_word a.process a.page ≡ page_word b.process b.page → CanBeSaid (page_alone a) → CanBeSaid (page_alone b) → a ≡ b
one_page a b same can may =
    let first = page_parts (page_word a.process a.page) a.process a.page refl can.0 in
    let other = page_parts (page_word a.process a.page) b.process b.page same may.0 in
    let few = can.1 in
    let fewer = may.1 in
    let numbers : a.page ≡ b.page = decimal_injective a.page b.page (omega arith) (omega arith) (sym first.1 ∙ other.1) in
    let names : a.process ≡ b.process = sym first.0 ∙ other.0 in
    ap₂ page_at names numbers

-- ---- options

apart : (v w : List ℕ) (xs ys : List (List ℕ)) → bytes_eq v w ≡ false → v ∷ xs ≡ w ∷ ys → ⊥
apart v w xs ys other e =
    let same : v ≡ w = cc in
    let also : bytes_eq v w ≡ true = (bytes_eq-Decides v w).1 same in
    absurd (cc)

abbrev option_word : Choice → List ℕ
option_word as_svg = codes "--svg"
option_word with_frames = codes "--frames"
option_word (from_turn n) = codes "--from"
option_word (to_turn n) = codes "--to"
option_word (page_alone a) = codes "--page"

pub one_choice : (c d : Choice) (xs ys : List (List ℕ)) → CanBeSaid c → CanBeSaid d → words_of c ++ xs ≡ words_of d ++ ys → (c ≡ d) × (xs ≡ ys)
one_choice as_svg as_svg xs ys can may e = (refl, cc)
one_choice with_frames with_frames xs ys can may e = (refl, cc)
one_choice (from_turn n) (from_turn m) xs ys can may e =
    let few = can.1 in
    let fewer = may.1 in
    let same : decimal n ≡ decimal m = cc in
    (ap from_turn (decimal_injective n m (omega arith) (omega arith) same), cc)
one_choice (to_turn n) (to_turn m) xs ys can may e =
    let few = can.1 in
    let fewer = may.1 in
    let same : decimal n ≡ decimal m = cc in
    (ap to_turn (decimal_injective n m (omega arith) (omega arith) same), cc)
one_choice (page_alone a) (page_alone b) xs ys can may e =
    let same : page_word a.process a.page ≡ page_word b.process b.page = cc in
    (ap page_alone (one_page a b same can may), cc)
one_choice c d xs ys can may e = absurd (apart (option_word c) (option_word d) _ _ refl e)

some_words : (c : Choice) (xs : List (List ℕ)) → words_of c ++ xs ≡ [] → ⊥
some_words as_svg xs e = absurd (cc)
some_words with_frames xs e = absurd (cc)
some_words (from_turn n) xs e = absurd (cc)
some_words (to_turn n) xs e = absurd (cc)
some_words (page_alone a) xs e = absurd (cc)

-- ---- reading on

-- what the words ask is what those behind ask, which are left, where this is asked already
pub record IsReadOn (words rest : List (List ℕ)) (wanted : Wish) : Type 0 where
  pub on : (wish : Wish) → IsAskedFrom rest wanted wish → IsAskedFrom words nothing wish
  pub back : (wish : Wish) → IsAskedFrom words nothing wish → IsAskedFrom rest wanted wish

pub none_read : (words : List (List ℕ)) → IsReadOn words words nothing
none_read words = record { on = λ wish asks. asks; back = λ wish asks. asks }

one_on : (rest behind : List (List ℕ)) (choice : Choice) (before after : Wish) → IsFirst rest choice behind → IsNew choice before → IsAskedFrom behind (with_choice choice before) after → IsAskedFrom rest before after
one_on rest behind choice before after is new (choices, split, asks) =
    (choice ∷ choices, is.0 ∙ ap (λ (ws : List (List ℕ)). words_of choice ++ ws) split, (is.1, new, asks))

one_back : (rest behind : List (List ℕ)) (choice : Choice) (before after : Wish) → IsFirst rest choice behind → IsAskedFrom rest before after → IsNew choice before × IsAskedFrom behind (with_choice choice before) after
one_back rest behind choice before after is ([], split, asks) = absurd (some_words choice behind (sym is.0 ∙ split))
one_back rest behind choice before after is (other ∷ more, split, (can, new, asks)) =
    let same = one_choice other choice (flat_map words_of more) behind can is.1 (sym split ∙ is.0) in
    (subst (λ (c : Choice). IsNew c before) same.0 new, (more, sym same.1, subst (λ (c : Choice). Ask more (with_choice c before) after) same.0 asks))

pub one_read : (words rest behind : List (List ℕ)) (choice : Choice) (wanted more : Wish) → IsReadOn words rest wanted → IsFirst rest choice behind → IsNew choice wanted → more ≡ with_choice choice wanted → IsReadOn words behind more
one_read words rest behind choice wanted more read is new with =
    subst (IsReadOn words behind) (sym with) (record {
      on = λ wish asks. read.on wish (one_on rest behind choice wanted wish is new asks);
      back = λ wish asks. (one_back rest behind choice wanted wish is (read.back wish asks)).1;
    })

-- an option that is there already
pub no_new : (words rest behind : List (List ℕ)) (choice : Choice) (wanted wish : Wish) → IsReadOn words rest wanted → IsFirst rest choice behind → (IsNew choice wanted → ⊥) → IsAskedFrom words nothing wish → ⊥
no_new words rest behind choice wanted wish read is old asks = old (one_back rest behind choice wanted wish is (read.back wish asks)).0

none_begins : (rest : List (List ℕ)) (before after : Wish) → BeginsWithNone rest → (rest ≡ [] → ⊥) → IsAskedFrom rest before after → ⊥
none_begins rest before after none some ([], split, asks) = some split
none_begins rest before after none some (choice ∷ more, split, (can, new, asks)) = none choice (flat_map words_of more) (split, can)

-- words that are no option's
pub no_first : (words rest : List (List ℕ)) (wanted wish : Wish) → IsReadOn words rest wanted → BeginsWithNone rest → (rest ≡ [] → ⊥) → IsAskedFrom words nothing wish → ⊥
no_first words rest wanted wish read none some asks = none_begins rest wanted wish none some (read.back wish asks)

none_left : (rest : List (List ℕ)) (before after : Wish) → rest ≡ [] → IsAskedFrom rest before after → after ≡ before
none_left rest before after none ([], split, asks) = asks
none_left rest before after none (choice ∷ more, split, asks) = absurd (some_words choice (flat_map words_of more) (sym split ∙ none))

pub one_wish : (words rest : List (List ℕ)) (wanted wish : Wish) → IsReadOn words rest wanted → rest ≡ [] → IsAskedFrom words nothing wish → wish ≡ wanted
one_wish words rest wanted wish read none asks = none_left rest wanted wish none (read.back wish asks)
