-- The lines of the head that map, pin and give, and that rounds may follow the head.
use Rattle.std.proofs.Common.{ℕ, ◌⊎◌, true, false, List, [], ◌∷◌, ◌++◌, codes, refl, lit<, inr, arith}
use Rattle.std.specs.List.{join_with_byte}
use Rattle.std.specs.Fmt.{digits}
use Rattle.std.proofs.lemmas.List.Elements.{All-nil, All-cons}
use Rattle.gup_base.specs.declared.entry.Rights.TheVariants.{RW}
use Rattle.gup_script.specs.declared.op.Op.TheVariants as ops
use Rattle.gup_spec_grammar.specs.Outline.{Outline, with_handle, with_operation}
use Rattle.gup_spec_grammar.specs.Said.{Word, maps, pins, gives, takes, Action, action_words}
use Rattle.gup_spec_grammar.specs.Spelling.{IsLetter, IsDigit, IsName, IsRange}
use Rattle.gup_spec_grammar.specs.Grammar.{open_at, Does, NamesActor, IsOpOf, first_word, want_of}
use Rattle.gup_make.specs.Made.{head}
use Rattle.gup_law_made.proofs.Texts.{ArePlain, IsText, text_more}
use Rattle.gup_law_made.proofs.Standing.{Standing}
use Rattle.gup_law_made.proofs.Good.{IsGood}
use Rattle.gup_law_made.proofs.Head.{declared, declared_text, declared_right}

-- ---- the outlines

abbrev mapped : Outline
mapped = with_operation 0 (ops.Map 0 64 RW) declared

abbrev pinned : Outline
pinned = with_operation 0 (ops.Pin 0 0 4 (want_of true false) false) (with_handle (codes "h1") mapped)

abbrev given : Outline
given = with_operation 0 (ops.Give 0 4) pinned

abbrev both_pinned : Outline
both_pinned = with_operation 0 (ops.Pin 1 4 4 (want_of false false) false) (with_handle (codes "h2") given)

abbrev both_given : Outline
both_given = with_operation 0 (ops.Give 1 5) both_pinned

abbrev taken : Outline
taken = with_operation 4 (ops.Take 0) both_given

abbrev ready : Outline
ready = with_operation 5 (ops.Take 1) taken

-- ---- the lines

abbrev more : List ℕ → (actor : Word) → Action → List ℕ
more text actor action = text ++ (join_with_byte 32 (codes "on" ∷ actor ∷ action_words action) ++ codes "\n")

acts_text : (text : List ℕ) (st : Outline) (actor : Word) (a : ℕ) (action : Action) (next : Outline) → IsText text (open_at st) → ArePlain (codes "on" ∷ actor ∷ action_words action) → NamesActor st actor a → IsOpOf st a (first_word (action_words action)) → Does st a action next → IsText (more text actor action) (open_at next)
acts_text text st actor a action next h plain named of does =
    text_more text (open_at st) (open_at next) (codes "on" ∷ actor ∷ action_words action) h plain (next, inr (actor, a, action, refl, named, of, does), refl)

all_pages : IsRange 1024 (codes "0") (codes "64") 0 64
unfolding digits
all_pages = (refl, refl, omega arith, omega arith, omega arith)

first_pages : IsRange 16 (codes "0") (codes "4") 0 4
unfolding digits
first_pages = (refl, refl, omega arith, omega arith, omega arith)

next_pages : IsRange 16 (codes "4") (codes "4") 4 4
unfolding digits
next_pages = (refl, refl, omega arith, omega arith, omega arith)

handle_name : (d : ℕ) → IsDigit d → IsName (104 ∷ d ∷ [])
handle_name d is = ((omega arith, omega arith), All-cons (λ b. IsLetter b ⊎ IsDigit b) d [] (inr is) (All-nil (λ b. IsLetter b ⊎ IsDigit b)), lit< tt)

first_given : (text : List ℕ) → IsText text (open_at declared) → IsText (more (more (more text (codes "t1") (maps (codes "0") (codes "64") RW)) (codes "t1") (pins false (codes "h1") (codes "0") (codes "4") true false)) (codes "t1") (gives (codes "h1") (codes "d1"))) (open_at given)
first_given text h =
    let first = acts_text text declared (codes "t1") 0 (maps (codes "0") (codes "64") RW) mapped h ((refl, (refl, (refl, (refl, (refl, (refl, tt)))))), refl) refl (0, lit< tt, refl)
    (tt, (0, 64, all_pages), tt, tt, (tt, lit< tt), (ops.Map 0 64 RW, (0, 64, all_pages, refl), refl)) in
    let second = acts_text _ mapped (codes "t1") 0 (pins false (codes "h1") (codes "0") (codes "4") true false) pinned first ((refl, (refl, (refl, (refl, (refl, (refl, (refl, tt))))))), refl) refl (7, lit< tt, refl)
    (tt, (0, 4, first_pages), handle_name 49 (omega arith, omega arith), refl, (lit< tt, lit< tt), (ops.Pin 0 0 4 (want_of true false) false, (0, 4, first_pages, refl), refl)) in
    acts_text _ pinned (codes "t1") 0 (gives (codes "h1") (codes "d1")) given second ((refl, (refl, (refl, (refl, (refl, tt))))), refl) refl (14, lit< tt, refl)
    (tt, tt, ((0, refl), (4, refl, refl)), tt, (tt, lit< tt), (ops.Give 0 4, (0, 4, refl, refl, refl), refl))

second_given : (text : List ℕ) → IsText text (open_at given) → IsText (more (more text (codes "t1") (pins false (codes "h2") (codes "4") (codes "4") false false)) (codes "t1") (gives (codes "h2") (codes "d2"))) (open_at both_given)
second_given text h =
    let first = acts_text text given (codes "t1") 0 (pins false (codes "h2") (codes "4") (codes "4") false false) both_pinned h ((refl, (refl, (refl, (refl, (refl, (refl, (refl, tt))))))), refl) refl (7, lit< tt, refl)
    (tt, (4, 4, next_pages), handle_name 50 (omega arith, omega arith), refl, (lit< tt, lit< tt), (ops.Pin 1 4 4 (want_of false false) false, (4, 4, next_pages, refl), refl)) in
    acts_text _ both_pinned (codes "t1") 0 (gives (codes "h2") (codes "d2")) both_given first ((refl, (refl, (refl, (refl, (refl, tt))))), refl) refl (14, lit< tt, refl)
    (tt, tt, ((1, refl), (5, refl, refl)), tt, (tt, lit< tt), (ops.Give 1 5, (1, 5, refl, refl, refl), refl))

both_taken : (text : List ℕ) → IsText text (open_at both_given) → IsText (more (more text (codes "d1") (takes (codes "h1"))) (codes "d2") (takes (codes "h2"))) (open_at ready)
both_taken text h =
    let first = acts_text text both_given (codes "d1") 4 (takes (codes "h1")) taken h ((refl, (refl, (refl, (refl, tt)))), refl) refl (1, lit< tt, refl) (tt, tt, (0, refl), tt, (tt, lit< tt), (ops.Take 0, (0, refl, refl), refl)) in
    acts_text _ taken (codes "d2") 5 (takes (codes "h2")) ready first ((refl, (refl, (refl, (refl, tt)))), refl) refl (1, lit< tt, refl) (tt, tt, (1, refl), tt, (tt, lit< tt), (ops.Take 1, (1, refl, refl), refl))

-- ---- the head as a whole

head_right : IsText head (open_at ready)
head_right = both_taken _ (second_given _ (first_given declared_text declared_right))

ready_stands : Standing 20 0 0 ready
ready_stands =
    record {
      known = λ name what e. e;
      fresh_pin = λ j above lt. refl;
      fresh_reference = λ j above lt. refl;
      kinds = refl;
      processes = refl;
      unforked = λ p lt. refl;
      no_turns = refl;
      few_handles = omega arith;
      few_operations = omega arith;
    }

pub head_good : IsGood 20 0 0 head
head_good = (ready, record { is_text = head_right; standing = ready_stands; short = omega arith; few = omega arith })
