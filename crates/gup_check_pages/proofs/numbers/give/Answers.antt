use Rattle.std.proofs.Common.{◌≡◌, ℕ, refl, ap, ◌∙◌, arith}
use Rattle.gup_plain.specs.Put.{spread}
use Rattle.gup_exec_parts.proofs.TableLemmas.{grown, key_updated}
use Rattle.gup_check_pages.specs.Mapped.{number_in}
use Rattle.gup_check_pages.proofs.numbers.give.Goals as goal

pub loop-k-preserved : goal.loop-k-preserved
loop-k-preserved c =
    grown (number_in c.args.space.now) (λ _. c.args.at) (number_in c.loop-k.space) (number_in c.insert.new.self) c.args.first c.loop-k.k c.nth.result c.args.at
    c.loop-k.invariant c.nth.ensures
    (key_updated (λ (n : ℕ). n) 0 c.loop-k.space c.insert.new.self c.nth.result c.args.at c.in_ok-insert.ensures.updates.0) refl

pub returns : goal.returns
returns c =
    let all : c.loop-k.k ≡ c.args.n = omega arith in
    c.loop-k.invariant ∙ ap (λ (n : ℕ). spread c.args.first n (λ _. c.args.at) (number_in c.args.space.now)) all
