-- Which words are which command.
use Rattle.std.proofs.Common.{◌≡◌, ◌⊎◌, ℕ, ◌<◌, ◌≤◌, true, List, [], ◌∷◌, Some, None, map, length, get_or, refl, sym, ap, ap₂, subst, ◌∙◌, arith, inl, inr}
use Rattle.std.specs.Prelude.{codes, decimal}
use Rattle.std.specs.Str.{bytes_eq}
use Rattle.std.proofs.lemmas.Slice.Eq.{bytes_eq-Decides}
use Rattle.std.proofs.lemmas.Fmt.{decimal_injective}
use Rattle.gup_read_words.specs.Text.{number_in}
use Rattle.gup_read_words.proofs.SpelledNumbers.{number_found, decimal_read}
use Rattle.gup_top.specs.Report.{IsToldIn, RunsScript, IsChecked, IsMake, IsSerial, IsLiveIn, RunsLive, IsCommand, IsAsked}
use Rattle.gup_top.specs.declared.command.Command.{Command}
use Rattle.gup_top.specs.declared.command.Command.TheVariants.{Run, Check, Make}
use Rattle.gup_top.specs.declared.command.Format.{Format}
use Rattle.gup_top.specs.declared.command.Format.TheVariants.{Answers, Trace}

-- the words of a list of two
pub two_of : {X : Type 0} (f : X → List ℕ) (xs : List X) (x y : X) → 2 ≤ length xs → length xs < 3 → x ≡ get_or xs 0 x → y ≡ get_or xs 1 y → map f xs ≡ f x ∷ f y ∷ []
two_of f [] x y some few is next = absurd (omega arith)
two_of f (a ∷ []) x y some few is next = absurd (omega arith)
two_of f (a ∷ b ∷ []) x y some few is next = ap₂ (λ v w. f v ∷ f w ∷ []) (sym is) (sym next)
two_of f (a ∷ b ∷ c ∷ xs) x y some few is next = absurd (omega arith)

-- those of `make`, by the number that was read
pub make_words : (words : List (List ℕ)) (word count : List ℕ) (n : ℕ) → words ≡ word ∷ count ∷ [] → bytes_eq word (codes "make") ≡ true → number_in count ≡ Some n → IsMake words n
make_words words word count n are same read =
    let found = number_found count n read in
    (are ∙ ap₂ (λ w k. w ∷ k ∷ []) ((bytes_eq-Decides word (codes "make")).0 same) found.0, found.1)

-- where no number was read, they are none
pub no_number : (words : List (List ℕ)) (word count : List ℕ) → words ≡ word ∷ count ∷ [] → number_in count ≡ None → IsSerial words → ⊥
no_number words word count are unread (inl (inl run)) = let e = sym are ∙ run in absurd (cc)
no_number words word count are unread (inl (inr traced)) = let e = sym are ∙ traced in absurd (cc)
no_number words word count are unread (inr (inl checked)) = let e = sym are ∙ checked in absurd (cc)
no_number words word count are unread (inr (inr made)) =
    let e = sym are ∙ made.1.0 in
    let spelled : count ≡ decimal made.0 = cc in
    let read = sym unread ∙ ap number_in spelled ∙ decimal_read made.0 made.1.1 in
    absurd (cc)

-- no words are two commands

pub not_both : (words : List (List ℕ)) (n : ℕ) → RunsScript words → IsMake words n → ⊥
not_both words n (inl run) made = let e = sym run ∙ made.0 in absurd (cc)
not_both words n (inr traced) made = let e = sym traced ∙ made.0 in absurd (cc)

-- a format is of a command that runs the source's script
pub runs_told : (words : List (List ℕ)) (format : Format) → IsToldIn words format → RunsScript words
runs_told words Answers told = inl told
runs_told words Trace told = inr told

-- and of one only
pub one_format : (words : List (List ℕ)) (f g : Format) → IsToldIn words f → IsToldIn words g → f ≡ g
one_format words Answers Answers here there = refl
one_format words Trace Trace here there = refl
one_format words Answers Trace here there = let e : codes "run" ∷ [] ≡ codes "trace" ∷ [] = sym here ∙ there in absurd (cc)
one_format words Trace Answers here there = let e : codes "trace" ∷ [] ≡ codes "run" ∷ [] = sym here ∙ there in absurd (cc)

pub one_number : (words : List (List ℕ)) (n m : ℕ) → IsMake words n → IsMake words m → n ≡ m
one_number words n m here there =
    let e = sym here.0 ∙ there.0 in
    let same : decimal n ≡ decimal m = cc in
    decimal_injective n m here.1 there.1 same

-- `check` is no other command
pub checked_not_run : (words : List (List ℕ)) → IsChecked words → RunsScript words → ⊥
checked_not_run words checked (inl run) = let e : codes "check" ∷ [] ≡ codes "run" ∷ [] = sym checked ∙ run in absurd (cc)
checked_not_run words checked (inr traced) =
    let first : 99 ≡ 116 = ap (λ (w : List (List ℕ)). get_or (get_or w 0 []) 0 0) (sym checked ∙ traced) in
    omega (arith, first)

pub checked_not_made : (words : List (List ℕ)) (n : ℕ) → IsChecked words → IsMake words n → ⊥
checked_not_made words n checked made = let e = sym checked ∙ made.0 in absurd (cc)

-- what the words ask for is the command that was read

pub asked_told : (words : List (List ℕ)) (command : Command) (format : Format) → command ≡ Run format → IsAsked words command → IsToldIn words format
asked_told words command format is asked = subst (IsAsked words) is asked

pub asked_check : (words : List (List ℕ)) (command : Command) → command ≡ Check → IsAsked words command → IsChecked words
asked_check words command is asked = subst (IsAsked words) is asked

pub asked_make : (words : List (List ℕ)) (command : Command) (n : ℕ) → command ≡ Make n → IsAsked words command → IsMake words n
asked_make words command n is asked = subst (IsAsked words) is asked

-- who is asked to read the source isn't asked to leave it
pub reads_source : (words : List (List ℕ)) → RunsScript words ⊎ IsChecked words → (IsCommand words → ⊥) ⊎ ((n : ℕ) × IsMake words n) → ⊥
reads_source words (inl runs) (inl none) = none (inl (inl runs))
reads_source words (inl runs) (inr made) = not_both words made.0 runs made.1
reads_source words (inr checked) (inl none) = none (inl (inr (inl checked)))
reads_source words (inr checked) (inr made) = checked_not_made words made.0 checked made.1

-- `live` is no other command

pub live_not_run : (words : List (List ℕ)) → RunsLive words → RunsScript words → ⊥
live_not_run words (inl live) (inl run) = let e : codes "live" ∷ [] ≡ codes "run" ∷ [] = sym live ∙ run in absurd (cc)
live_not_run words (inl live) (inr traced) =
    let first : 108 ≡ 116 = ap (λ (w : List (List ℕ)). get_or (get_or w 0 []) 0 0) (sym live ∙ traced) in
    omega (arith, first)
live_not_run words (inr live) (inl run) = let e = sym live ∙ run in absurd (cc)
live_not_run words (inr live) (inr traced) = let e = sym live ∙ traced in absurd (cc)

pub live_not_checked : (words : List (List ℕ)) → RunsLive words → IsChecked words → ⊥
live_not_checked words (inl live) checked =
    let first : 108 ≡ 99 = ap (λ (w : List (List ℕ)). get_or (get_or w 0 []) 0 0) (sym live ∙ checked) in
    omega (arith, first)
live_not_checked words (inr live) checked = let e = sym live ∙ checked in absurd (cc)

pub live_not_made : (words : List (List ℕ)) (n : ℕ) → RunsLive words → IsMake words n → ⊥
live_not_made words n (inl live) made = let e = sym live ∙ made.0 in absurd (cc)
live_not_made words n (inr live) made =
    let first : 108 ≡ 109 = ap (λ (w : List (List ℕ)). get_or (get_or w 0 []) 0 0) (sym live ∙ made.0) in
    omega (arith, first)

-- a format is of `live`, and of one command of its two only

pub lives_in : (words : List (List ℕ)) (format : Format) → IsLiveIn words format → RunsLive words
lives_in words Answers live = inl live
lives_in words Trace live = inr live

pub one_live_format : (words : List (List ℕ)) (f g : Format) → IsLiveIn words f → IsLiveIn words g → f ≡ g
one_live_format words Answers Answers here there = refl
one_live_format words Trace Trace here there = refl
one_live_format words Answers Trace here there = let e = sym here ∙ there in absurd (cc)
one_live_format words Trace Answers here there = let e = sym here ∙ there in absurd (cc)

-- words that are neither are none
pub none_at_all : (words : List (List ℕ)) → (IsSerial words → ⊥) → (RunsLive words → ⊥) → IsCommand words → ⊥
none_at_all words serial live (inl asked) = serial asked
none_at_all words serial live (inr asked) = live asked

-- who runs so reads the source
pub live_reads : (words : List (List ℕ)) → RunsLive words → (IsCommand words → ⊥) ⊎ ((n : ℕ) × IsMake words n) → ⊥
live_reads words live (inl none) = none (inr live)
live_reads words live (inr made) = live_not_made words made.0 live made.1
