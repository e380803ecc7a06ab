use Rattle.std.proofs.Common.{◌+◌, ◌<◌, ◌≤◌, ◌/◌, ◌%◌, ◌^◌, get_or, ⊎_elim, arith, sym, w64}
use Rattle.std.specs.Int.{trailing_zeros}
use Rattle.std.proofs.lemmas.Bool.{cases_lt}
use Rattle.gup_bits.specs.Bits.{has}
use Rattle.gup_bits.proofs.Bits.{left-none, left-first}
use Rattle.gup_bits.proofs.Lowest.{lowest_is, lowest_none}
use Rattle.gup_bits.proofs.bitmap.Bitmap.lowest.Goals as goal

pub returns-then-found-end : goal.returns-then-found-end
returns-then-found-end c =
    let words = c.as_slice-words.result.now in
    let low = c.loop-low.low in
    let fits : get_or words (low / 64) 0 < 2 ^ 64 = omega arith in
    let some : 0 < get_or words (low / 64) 0 / 2 ^ (low % 64) = omega arith in
    let first = left-first words low fits some in
    let at = low + trailing_zeros w64 (get_or words (low / 64) 0 / 2 ^ (low % 64)) in
    rw (← c.self.view_is, ← c.as_slice-words.ensures.value)
    (sym (lowest_is c.args.first c.args.n (has words) at (omega arith) (omega arith) first.0
    (λ k above below.
    ⊎_elim (λ (l : k < low). c.loop-low.invariant.1 k above l) (λ (g : low ≤ k). first.1 k g below) (cases_lt k low))))

pub returns-else-found-end : goal.returns-else-found-end
returns-else-found-end c =
    let words = c.as_slice-words.result.now in
    let low = c.loop-low.low in
    let fits : get_or words (low / 64) 0 < 2 ^ 64 = omega arith in
    let some : 0 < get_or words (low / 64) 0 / 2 ^ (low % 64) = omega arith in
    let first = left-first words low fits some in
    rw (← c.self.view_is, ← c.as_slice-words.ensures.value)
    (sym (lowest_none c.args.first c.args.n (has words)
    (λ k above below.
    ⊎_elim (λ (l : k < low). c.loop-low.invariant.1 k above l) (λ (g : low ≤ k). first.1 k g (omega arith)) (cases_lt k low))))

pub loop-low-preserved : goal.loop-low-preserved
loop-low-preserved c =
    let words = c.as_slice-words.result.now in
    let low = c.loop-low.low in (
      omega arith,
      λ k above below.
          ⊎_elim (λ (l : k < low). c.loop-low.invariant.1 k above l) (λ (g : low ≤ k). left-none words low (omega arith) k g below) (cases_lt k low),
    )

pub returns : goal.returns
returns c =
    rw (← c.self.view_is, ← c.as_slice-words.ensures.value)
    (sym (lowest_none c.args.first c.args.n (has c.as_slice-words.result.now) (λ k above below. c.loop-low.invariant.1 k above (omega arith))))
