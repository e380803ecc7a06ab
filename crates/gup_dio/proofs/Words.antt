-- Where the words of parts are.
use Rattle.std.proofs.Common.{◌≡◌, ℕ, ◌+◌, ◌*◌, ◌<◌, ◌≤◌, Bool, true, false, cond, List, [], ◌∷◌, refl, arith}
use Rattle.std.specs.Prelude.{◌-◌, ◌&&◌, nat_lt, nat_le}
use Rattle.std.proofs.lemmas.List.Sums.{sum_by-cons}
use Rattle.std.proofs.lemmas.Bool.Decides.{nat_tests}
use Rattle.gup_base.specs.Parts.{Part, words_of, word_at}
use Rattle.gup_plain.specs.Denial.{has_words, has_slots}
use Rattle.gup_dio.specs.Job.{JobValue, fits_in}

pub both_so : (a b : Bool) → (a && b) ≡ true → (a ≡ true) × (b ≡ true)
both_so true true so = (refl, refl)
both_so true false so = absurd (cc)
both_so false b so = absurd (cc)

at_most : (a b : ℕ) → nat_le a b ≡ true → a ≤ b
at_most a b so = grind (arith, nat_tests)

-- a word of the first part, or one of the others
at_part : (pages : ℕ) (part : Part) (parts : List Part) (k : ℕ) → part.0 + part.1 ≤ 512 * pages → (part.1 ≤ k → word_at parts (k - part.1) < 512 * pages) → word_at (part ∷ parts) k < 512 * pages
at_part pages part parts k here rest = go (nat_lt k part.1) refl
  where
    go : (is_here : Bool) → nat_lt k part.1 ≡ is_here → cond is_here (part.0 + k) (word_at parts (k - part.1)) < 512 * pages
    go true is = let less : k < part.1 = grind (arith, nat_tests) in omega arith
    go false is = let behind : part.1 ≤ k = grind (arith, nat_tests) in rest behind

-- a word of parts that fit is one of the pages
pub word_fits : (pages : ℕ) (parts : List Part) (k : ℕ) → has_words pages parts ≡ true → k < words_of parts → word_at parts k < 512 * pages
word_fits pages [] k fit within = absurd (omega arith)
word_fits pages (part ∷ parts) k fit within =
    let both = both_so (nat_le (part.0 + part.1) (512 * pages)) (has_words pages parts) fit in
    let rest : part.1 ≤ k → k - part.1 < words_of parts = λ behind. omega (arith, sum_by-cons (λ (x : Part). x.1) part parts) in
    at_part pages part parts k (at_most _ _ both.0) (λ behind. word_fits pages parts (k - part.1) both.1 (rest behind))

pub index_fits : (pages slots : ℕ) (job : JobValue) (k : ℕ) → fits_in pages slots job ≡ true → k < words_of job.parts → word_at job.parts k < 512 * pages
index_fits pages slots job k fit within =
    word_fits pages job.parts k (both_so (has_words pages job.parts) (has_slots slots job.first_slot job.parts) fit).0 within

-- and its slot is one of the store's
pub slot_fits : (pages slots : ℕ) (job : JobValue) (k : ℕ) → fits_in pages slots job ≡ true → k < words_of job.parts → job.first_slot + k < slots
slot_fits pages slots job k fit within =
    let most = at_most _ _ (both_so (has_words pages job.parts) (has_slots slots job.first_slot job.parts) fit).1 in
    omega (arith, most)
