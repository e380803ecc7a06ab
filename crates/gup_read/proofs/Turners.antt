-- The turns of a line: its words while they are judged, and its runs while they are added.
use Rattle.std.proofs.Common.{◌≡◌, ℕ, ◌+◌, ◌<◌, ◌&&◌, Bool, true, false, not, cond, List, [], ◌∷◌, ◌++◌, length, drop, map, get_or, replicate, Option, Some, None, Ok, Err, refl, sym, ap, ◌∙◌, append_assoc, append-nil, add-one, drop-cons}
use Rattle.std.specs.Borrow.{Bor}
use Rattle.std.specs.Prelude.{is_some}
use Rattle.std.specs.Str.{bytes_eq}
use Rattle.std.proofs.lemmas.Slice.Eq.{bytes_eq-Decides}
use Rattle.gup_spec_grammar.specs.declared.fault.Reason.TheVariants as reasons
use Rattle.gup_spec_grammar.specs.Outline.{Outline}
use Rattle.gup_read_words.specs.Text.{turn_times}
use Rattle.gup_read.specs.declared.turns.Run.{Run}
use Rattle.gup_read.specs.Reading.{◌>>=◌, check, turner, are_times, are_turners, turns_of}
use Rattle.gup_read.specs.Runs.{spread, turn_in, turners_in}

abbrev pub texts : List (Bor (List ℕ)) → List (List ℕ)
texts words = map (λ word. word.now) words

-- a word in front of those that follow it
pub in_front : (words : List (Bor (List ℕ))) (at : ℕ) (d : Bor (List ℕ)) → at < length words → texts (drop at words) ≡ (get_or words at d).now ∷ texts (drop (at + 1) words)
in_front words at d within =
    let e : drop at words ≡ get_or words at d ∷ drop (at + 1) words = rw (add-one, drop-cons words at d) refl in
    ap texts e

-- a word that isn't another is the same
pub same_word : (word before : List ℕ) (differs : Bool) → differs ≡ not (bytes_eq word before) → differs ≡ false → word ≡ before
same_word word before differs is e = (bytes_eq-Decides word before).0 (equal (bytes_eq word before) (sym is ∙ e)) where
  equal : (b : Bool) → not b ≡ false → b ≡ true
  equal true e = refl
  equal false e = absurd cc

-- the words that are left, of all of a line, while the runs of those before them are kept
pub record AreJudged (st : Outline) (all left : List (List ℕ)) (runs : List Run) : Type 0 where
  pub tests : turners_in st all ≡ (check reasons.Number (are_times all) >>= λ _. check reasons.Name (are_turners st all))
  pub times : are_times all ≡ are_times left
  pub turners : are_turners st all ≡ are_turners st left
  pub turns : turns_of st all ≡ spread runs ++ turns_of st left

-- of a turn that is right, and of one that isn't
turn_is : (turner times : Option ℕ) (a n : ℕ) → turn_in turner times ≡ Some (a, n) → (turner ≡ Some a) × (times ≡ Some n)
turn_is (Some b) (Some m) a n e =
    let same : (b, m) ≡ (a, n) = cc in
    (ap (λ (p : ℕ × ℕ). Some p.0) same, ap (λ (p : ℕ × ℕ). Some p.1) same)
turn_is (Some b) None a n e = absurd cc
turn_is None times a n e = absurd cc

spread_more : (runs : List Run) (run : Run) → spread (runs ++ run ∷ []) ≡ spread runs ++ replicate run.times run.actor
spread_more [] run = append-nil (replicate run.times run.actor)
spread_more (first ∷ runs) run =
    ap (λ (turns : List ℕ). replicate first.times first.actor ++ turns) (spread_more runs run)
    ∙ sym (append_assoc (replicate first.times first.actor) (spread runs) (replicate run.times run.actor))

pub none_judged : (st : Outline) (first : List ℕ) (more : List (List ℕ)) → AreJudged st (first ∷ more) (first ∷ more) []
none_judged st first more = record { tests = refl; times = refl; turners = refl; turns = refl }

pub one_judged : (st : Outline) (all left : List (List ℕ)) (word : List ℕ) (runs : List Run) (a n : ℕ) → turn_in (turner st word) (turn_times word) ≡ Some (a, n) → AreJudged st all (word ∷ left) runs → AreJudged st all left (runs ++ record { actor = a; times = n } ∷ [])
one_judged st all left word runs a n is h =
    let parts = turn_is (turner st word) (turn_times word) a n is in
    let run : Run = record { actor = a; times = n } in
    record {
      tests = h.tests;
      times = rw parts.1 at h.times;
      turners = rw parts.0 at h.turners;
      turns = (rw (parts.0, parts.1) at h.turns)
          ∙ sym (append_assoc (spread runs) (replicate n a) (turns_of st left))
          ∙ ap (λ (turns : List ℕ). turns ++ turns_of st left) (sym (spread_more runs run));
    }

pub one_wrong : (st : Outline) (all left : List (List ℕ)) (word : List ℕ) (runs : List Run) → turn_in (turner st word) (turn_times word) ≡ None → AreJudged st all (word ∷ left) runs → turners_in st all ≡ Err (cond (are_times all) reasons.Name reasons.Number)
one_wrong st all left word runs is h = h.tests ∙ wrong (turner st word) (turn_times word) (are_times all) (are_turners st all) is h.times h.turners where
  wrong : (turner times : Option ℕ) (timed turning : Bool) → turn_in turner times ≡ None → timed ≡ (is_some times && are_times left) → turning ≡ (is_some turner && are_turners st left) → (check reasons.Number timed >>= λ _. check reasons.Name turning) ≡ Err (cond timed reasons.Name reasons.Number)
  wrong turner times false turning is t n = refl
  wrong turner times true false is t n = refl
  wrong None times true true is t n = absurd cc
  wrong (Some a) None true true is t n = absurd cc
  wrong (Some a) (Some m) true true is t n = absurd cc

pub all_judged : (st : Outline) (all : List (List ℕ)) (runs : List Run) → AreJudged st all [] runs → (turners_in st all ≡ Ok tt) × (spread runs ≡ turns_of st all)
all_judged st all runs h = (h.tests ∙ rw (h.times, h.turners) refl, sym (h.turns ∙ append-nil (spread runs)))
