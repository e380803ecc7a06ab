use Rattle.std.proofs.Common.{◌≡◌, ◌<◌, ◌≤◌, ◌++◌, ℕ, IfSome, List, All, length, sym, ap, subst, ◌∙◌, arith}
use Rattle.gup_script.specs.declared.op.Op.{Op}
use Rattle.gup_script.specs.Script.{actor_at}
use Rattle.gup_spec_orders.specs.declared.told.Named.{Named}
use Rattle.gup_conditions.specs.Condition.{ConditionValue}
use Rattle.gup_conditions.specs.Reading.{AllPrint}
use Rattle.gup_conditions.specs.Named.{wanted_of, ops_named, named_of, AreNamed}
use Rattle.gup_conditions.proofs.Verdicts.{there}
use Rattle.gup_conditions.proofs.NamedOperations.{few_ops, actors_more, actors_all, all_named}
use Rattle.gup_conditions.proofs.operations.named.Goals as goal

pub push_operations-requires : goal.push_operations-requires
push_operations-requires c =
    let script = c.args.script.now in
    let within : c.loop-k.k < length script.actors = omega (arith, c.actors-k-end.ensures.count) in
    let w = there script.actors c.loop-k.k within in
    let number : c.unwrap-actor.result ≡ c.loop-k.k = subst (λ o. IfSome o (λ n. n ≡ c.from.result)) c.unwrap-actor.ensures c.new.ensures.value ∙ c.from.ensures in
    let ops = c.ops.ensures w.0 (ap (λ (a : ℕ). actor_at script a) number ∙ w.1) in
    subst (λ (os : List Op). length os ≤ 16384) (sym ops) (few_ops script c.actors-k-end.ensures.valid c.loop-k.k w.0 w.1)

pub loop-k-preserved : goal.loop-k-preserved
loop-k-preserved c =
    let script = c.args.script.now in
    let conditions = c.args.conditions.now in
    let within : c.loop-k.k < length script.actors = omega (arith, c.actors-k-end.ensures.count) in
    let w = there script.actors c.loop-k.k within in
    let number : c.unwrap-actor.result ≡ c.loop-k.k = subst (λ o. IfSome o (λ n. n ≡ c.from.result)) c.unwrap-actor.ensures c.new.ensures.value ∙ c.from.ensures in
    let ops = c.ops.ensures w.0 (ap (λ (a : ℕ). actor_at script a) number ∙ w.1) in
    let pushed : c.push_operations.new.named.items ≡ c.loop-k.named.items ++ wanted_of conditions (ops_named c.loop-k.k 1 w.0.ops) =
    c.in_ok-push_operations.ensures
    ∙ ap (λ (os : List Op). c.loop-k.named.items ++ wanted_of conditions (ops_named c.unwrap-actor.result 1 os)) ops
    ∙ ap (λ (a : ℕ). c.loop-k.named.items ++ wanted_of conditions (ops_named a 1 w.0.ops)) number in
    actors_more conditions script.actors c.loop-k.k w.0 c.loop-k.named.items c.push_operations.new.named.items (named_of script conditions) w.1 pushed c.loop-k.invariant

pub returns-clause-wanted : goal.returns-clause-wanted
returns-clause-wanted c =
    let script = c.args.script.now in
    let conditions = c.args.conditions.now in
    let past : length script.actors ≤ c.loop-k.k = omega (arith, c.actors-k-end.ensures.count) in
    let is = actors_all conditions script.actors c.loop-k.k c.loop-k.named.items (named_of script conditions) past c.loop-k.invariant in
    subst (λ (named : List Named). All (λ (condition : ConditionValue). AllPrint script condition.lines → AreNamed named condition.lines) conditions) (sym is)
    (all_named script conditions)
