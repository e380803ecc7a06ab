-- The references that a failed fork gives back one by one, counted for each frame.
use Rattle.std.proofs.Common.{◌≡◌, ℕ, zero, suc, ◌+◌, ◌-◌, ◌==◌, ◌&&◌, ◌||◌, nat_lt, Bool, if◌then◌else◌, Option, Some, None, refl, ◌∙◌, arith}
use Rattle.std.proofs.Math.Path.{fun_ext}
use Rattle.std.proofs.lemmas.Bool.Decides.{nat_tests}
use Rattle.gup_base.specs.declared.entry.Entry.{Entry}
use Rattle.gup_plain.specs.Event.{page_numbers}
use Rattle.gup_frames.specs.Frames.{FramesValue}
use Rattle.gup_fork.specs.Forks.{without_entry, without_entries, is_entry_of, entries_of, given_back}

one_count : (o : Option Entry) (F : FramesValue) (f : ℕ) → (without_entry o F).count f ≡ F.count f - (if is_entry_of o f then 1 else 0)
one_count None F f = omega arith
one_count (Some e) F f = grind (arith, nat_tests)

one_mark : (o : Option Entry) (F : FramesValue) (f : ℕ) → (without_entry o F).mark f ≡ (F.mark f && (F.count f == 0 || nat_lt (if is_entry_of o f then 1 else 0) (F.count f)))
one_mark None F f = grind (arith, nat_tests)
one_mark (Some e) F f = grind (arith, nat_tests)

counts_back : (entry : ℕ → Option Entry) (first n : ℕ) (F : FramesValue) (f : ℕ) → (without_entries entry first n F).count f ≡ F.count f - entries_of entry first n f
counts_back entry first zero F f = omega arith
counts_back entry first (suc n) F f =
    let rest = counts_back entry (first + 1) n (without_entry (entry first) F) f in
    let here = one_count (entry first) F f in
    omega (arith, rest, here)

marks_back : (entry : ℕ → Option Entry) (first n : ℕ) (F : FramesValue) (f : ℕ) → (without_entries entry first n F).mark f ≡ (F.mark f && (F.count f == 0 || nat_lt (entries_of entry first n f) (F.count f)))
marks_back entry first zero F f = grind (arith, nat_tests)
marks_back entry first (suc n) F f =
    let rest = marks_back entry (first + 1) n (without_entry (entry first) F) f in
    let here = one_mark (entry first) F f in
    let count = one_count (entry first) F f in
    grind (arith, nat_tests, rest, here, count)

words_back : (entry : ℕ → Option Entry) (first n : ℕ) (F : FramesValue) → ((without_entries entry first n F).word ≡ F.word)
words_back entry first zero F = refl
words_back entry first (suc n) F = words_back entry (first + 1) n (without_entry (entry first) F) ∙ one (entry first)
  where
    one : (o : Option Entry) → (without_entry o F).word ≡ F.word
    one None = refl
    one (Some e) = refl

zones_back : (entry : ℕ → Option Entry) (first n : ℕ) (F : FramesValue) → ((without_entries entry first n F).movable ≡ F.movable) × ((without_entries entry first n F).normal ≡ F.normal)
zones_back entry first zero F = (refl, refl)
zones_back entry first (suc n) F =
    let rest = zones_back entry (first + 1) n (without_entry (entry first) F) in
    (rest.0 ∙ (one (entry first)).0, rest.1 ∙ (one (entry first)).1)
  where
    one : (o : Option Entry) → ((without_entry o F).movable ≡ F.movable) × ((without_entry o F).normal ≡ F.normal)
    one None = (refl, refl)
    one (Some e) = (refl, refl)

same_frames : (movable movable' normal normal' : ℕ) (count count' : ℕ → ℕ) (mark mark' : ℕ → Bool) (word word' : ℕ → ℕ → ℕ) → movable ≡ movable' → normal ≡ normal' → count ≡ count' → mark ≡ mark' → word ≡ word' → ◌≡◌ {A = FramesValue} (record { movable = movable; normal = normal; count = count; mark = mark; word = word }) (record { movable = movable'; normal = normal'; count = count'; mark = mark'; word = word' })
same_frames movable movable' normal normal' count count' mark mark' word word' one two three four five = rw (one, two, three, four, five) refl

pub are_given_back : (entry : ℕ → Option Entry) (F : FramesValue) → without_entries entry 0 page_numbers F ≡ given_back entry F
are_given_back entry F =
    let all = without_entries entry 0 page_numbers F in
    let zones = zones_back entry 0 page_numbers F in
    same_frames all.movable F.movable all.normal F.normal all.count (given_back entry F).count all.mark (given_back entry F).mark all.word F.word
    zones.0 zones.1 (fun_ext (λ f. counts_back entry 0 page_numbers F f)) (fun_ext (λ f. marks_back entry 0 page_numbers F f)) (words_back entry 0 page_numbers F)
