use Rattle.std.proofs.Common.{◌≡◌, ℕ}
use Rattle.gup_notify.specs.Mirrors.{mirrors_of}
use Rattle.gup_notify.proofs.Invalidation.{without_below}
use Rattle.gup_notify.proofs.mirrors.Mirrors.invalidate_slots.Given as goal

-- the invalidation has gone over the slots so far
abbrev pub invariant-loop-at : goal.invariant-loop-at
invariant-loop-at l = (m : ℕ) → mirrors_of l.self m ≡ without_below l.at l.p l.page l.n (mirrors_of l.initial.self) m
