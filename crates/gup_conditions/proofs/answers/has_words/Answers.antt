use Rattle.std.proofs.Common.{◌≡◌, ◌+◌, ℕ, take, sym, arith}
use Rattle.std.proofs.lemmas.Bool.{ne_eqb}
use Rattle.std.proofs.lemmas.Bool.Decides.{nat_tests}
use Rattle.std.proofs.lemmas.List.{take_all}
use Rattle.std.proofs.lemmas.List.Sums.{sum_by_more, sum_by_more_le}
use Rattle.gup_base.specs.Parts.{Part, words_of}
use Rattle.gup_conditions.proofs.answers.has_words.Goals as goal

abbrev count_of : Part → ℕ
count_of part = part.1

pub returns-then-left-count : goal.returns-then-left-count
returns-then-left-count c =
    let parts = c.args.parts.now in
    let le = sum_by_more_le count_of parts c.loop-part.part-index (0, 0) c.loop-part-test.true in
    sym (ne_eqb c.args.n (words_of parts) (λ e. absurd (omega (arith, le, c.from-count.ensures))))

pub loop-part-preserved : goal.loop-part-preserved
loop-part-preserved c =
    let more = sum_by_more count_of c.args.parts.now c.loop-part.part-index (0, 0) c.loop-part-test.true in
    omega (arith, more, c.from-count.ensures)

pub returns : goal.returns
returns c =
    let all : take c.loop-part.part-index c.args.parts.now ≡ c.args.parts.now = take_all c.loop-part.part-index c.args.parts.now (omega arith) in
    let sum : c.loop-part.left + words_of c.args.parts.now ≡ c.args.n = rw all at c.loop-part.invariant in
    grind (arith, nat_tests)
