use Rattle.gup_exec_plain.proofs.Made.{applied_stays, applied_can, as_many}
use Rattle.gup_exec_plain.specs.Parts.{state_of}
use Rattle.gup_exec_plain.specs.declared.parts.Parts.{Parts}
use Rattle.gup_exec_plain.proofs.plain.Plain.apply.Goals as goal

pub invariant_of-self : goal.invariant_of-self
invariant_of-self c =
    let v : Parts = c.self.inside.parts in
    let w : Parts = c.apply.new.self in
    record {
      all = as_many v w c.self.invariant.all c.apply.ensures.many;
      made = applied_stays (state_of v) (state_of w) c.args.e.now c.apply.result c.self.invariant.made c.apply.ensures.event;
    }

pub returns-clause-can : goal.returns-clause-can
returns-clause-can c =
    rw (← c.self.view_is) (applied_can (state_of c.self.inside.parts) (state_of c.apply.new.self) c.args.e.now c.apply.result c.apply.ensures.event)
