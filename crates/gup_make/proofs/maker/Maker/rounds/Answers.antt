use Rattle.std.proofs.Common.{◌≡◌, ℕ, ◌+◌, suc, add-one, ◌∙◌, refl, ap, subst, arith}
use Rattle.gup_make.specs.Made.{Made, round, forks_behind, rounds}
use Rattle.gup_make.proofs.Handles.{rounds_few}
use Rattle.gup_make.proofs.maker.Maker.rounds.Goals as goal

pub loop-k-init : goal.loop-k-init
unfolding rounds
loop-k-init c = refl

pub round-requires : goal.round-requires
round-requires c =
    let same : c.loop-k.self ≡ rounds c.loop-k.k c.args.self.now = c.loop-k.invariant in
    omega (arith, c.requires, ap (λ (made : Made). made.handles) same, rounds_few c.loop-k.k c.args.self.now, c.loop-k-test.true)

pub loop-k-preserved : goal.loop-k-preserved
unfolding rounds
loop-k-preserved c =
    let same : c.loop-k.self ≡ rounds c.loop-k.k c.args.self.now = c.loop-k.invariant in
    let one : c.round.new.self ≡ round c.loop-k.self = c.in_ok-round.ensures in
    let other : c.forks_behind.new.self ≡ forks_behind (c.loop-k.k + 1) c.round.new.self = c.in_ok-forks_behind.ensures in
    let k = c.loop-k.k in
    let next : c.forks_behind.new.self ≡ forks_behind (suc k) c.round.new.self = subst (λ (j : ℕ). c.forks_behind.new.self ≡ forks_behind j c.round.new.self) (add-one k) other in
    rw (add-one k) (next ∙ ap (forks_behind (suc k)) (one ∙ ap round same))

pub returns : goal.returns
returns c =
    let same : c.loop-k.self ≡ rounds c.loop-k.k c.args.self.now = c.loop-k.invariant in
    let all : c.loop-k.k ≡ 20 = omega (arith, c.loop-k.auto.k-end, c.loop-k-test.false) in
    same ∙ ap (λ (k : ℕ). rounds k c.args.self.now) all
