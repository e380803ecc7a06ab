use Rattle.std.proofs.Common.{◌<◌, length, arith}
use Rattle.gup_plain.specs.Put.{spread}
use Rattle.gup_check_pages.proofs.NumberLemmas.{on_ok, numbers_put}
use Rattle.gup_check_pages.proofs.numbers.Numbers.set.Goals as goal

pub returns-clause-numbers : goal.returns-clause-numbers
returns-clause-numbers c =
    let within : c.args.p < length c.args.self.now.spaces.items = omega arith in
    on_ok c.give.result
    (numbers_put c.args.self.now.spaces.items c.args.p c.get.result c.index_mut-space.result.now c.give.new.space (spread c.args.first c.args.n (λ _. c.args.at))
    c.get.ensures.value within c.index_mut-space.ensures.value)
    c.give.ensures
