use Rattle.std.proofs.Common.{◌≡◌, ℕ, Some, subst, ◌∙◌, arith}
use Rattle.std.proofs.lemmas.Grind.{common_steps}
use Rattle.gup_script.specs.Script.{Actor, actor_at}
use Rattle.gup_read_notes.proofs.Named.{next_actor}
use Rattle.gup_read_notes.proofs.names.actors_of.Goals as goal

pub push-requires : goal.push-requires
push-requires c =
    let s = c.args.script.now in
    let w = c.name_of.result.now in
    let same : c.unwrap-actor.result ≡ c.loop-a.a = grind (arith, common_steps) in
    let named = subst (λ (n : ℕ). (x : Actor) → actor_at s n ≡ Some x → w ≡ x.name) same c.name_of.ensures in
    let next = next_actor s c.requires c.loop-a.a (omega arith) c.loop-a.table w c.loop-a.invariant named in
    next.0

pub loop-a-preserved : goal.loop-a-preserved
loop-a-preserved c =
    let s = c.args.script.now in
    let w = c.name_of.result.now in
    let same : c.unwrap-actor.result ≡ c.loop-a.a = grind (arith, common_steps) in
    let named = subst (λ (n : ℕ). (x : Actor) → actor_at s n ≡ Some x → w ≡ x.name) same c.name_of.ensures in
    let next = next_actor s c.requires c.loop-a.a (omega arith) c.loop-a.table w c.loop-a.invariant named in
    c.in_ok-push.ensures ∙ next.1
