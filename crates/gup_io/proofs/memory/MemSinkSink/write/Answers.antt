use Rattle.std.proofs.Common.{arith, refl, inl, inr}
use Rattle.gup_io.proofs.memory.MemSinkSink.write.Goals as goal
use Rattle.gup_io.proofs.memory.MemSinkSink.write.Goals.{then-is_listed-via-then-is_listed, then-is_listed-via-else-is_listed+then-n-eq0}

pub returns-then-is_listed-clause-fails : goal.returns-then-is_listed-clause-fails
returns-then-is_listed-clause-fails c =
    elim c.then-is_listed.branch [
      | then-is_listed-via-then-is_listed w ↦ (λ _. inl (rw (← c.self.view_is) (rw c.as_slice.ensures.value at (c.is_next_in-is_listed.ensures.stands.0 w.if-is_listed.true))), λ _. refl)
      | then-is_listed-via-else-is_listed+then-n-eq0 w ↦ (λ _. inr (rw (← c.self.view_is) (omega (arith, c.self.inside.bytes.ok.0))), λ _. refl)
    ]
