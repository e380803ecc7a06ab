use Rattle.gup_live.proofs.BusTurns.{has_costs, bus_on}
use Rattle.gup_live.proofs.bus.Bus.step.Goals as goal

pub invariant_of-self-in-Ok-Moved : goal.invariant_of-self-in-Ok-Moved
invariant_of-self-in-Ok-Moved g c =
    let script = g.J.Naming.script in
    let bus = c.self.invariant in
    let costs = has_costs script bus.valid c.turns_are_spent.ensures.spent c.costs_are_few.ensures c.reached_states_stand.ensures in
    bus_on script c.self.inside.machine c.advance.new.self c.self.inside.journal c.advance.new.journal c.self.inside.turns.items _ c.args.actor c.in-Ok-Moved.field-0 c.in-Ok-Moved._woken c.in-Ok-Moved.field-0-is c.in-Ok-Moved.ensures.advances
    _ c.reserve.ensures.items c.push_reserved.ensures.items costs c.requires c.in-Ok-Moved.ensures.script bus
