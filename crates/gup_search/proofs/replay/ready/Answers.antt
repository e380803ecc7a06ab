use Rattle.std.proofs.Common.{◌≡◌, ℕ, ◌+◌, ◌≤◌, List, [], ◌∷◌, ◌++◌, length, sym, ap, subst, ◌∙◌, arith}
use Rattle.gup_script.specs.Script.{ScriptValue}
use Rattle.gup_spec_turns.specs.Run.{can_go}
use Rattle.gup_search.proofs.Loops.{AreReadyTo, ready_first, ready_more, ready_same, ready_all}
use Rattle.gup_search.proofs.replay.ready.Goals as goal
use Rattle.gup_search.proofs.replay.ready.Goals.{then-can_go+in_ok-push, else-can_go}

pub loop-k-init : goal.loop-k-init
loop-k-init c = ready_first c.args.machine.now c.new-ready.result.items c.new-ready.ensures.items

pub loop-k-preserved : goal.loop-k-preserved
loop-k-preserved c =
    let m = c.args.machine.now in
    let k = c.loop-k.k in
    elim c.if-can_go.branch [
      | then-can_go+in_ok-push w ↦
          subst (λ (xs : List ℕ). AreReadyTo m xs (k + 1))
          (
          sym
          (
          ap (λ v. v.items) w.ready-is
          ∙ w.in_ok-push.ensures.items
          ∙ ap (λ (a : ℕ). c.loop-k.ready.items ++ a ∷ []) c.actor_no-actor.ensures
          )
          )
          (
          ready_more m c.loop-k.ready.items k
          (λ r shown. sym w.if-can_go.true ∙ c.can_go.ensures r shown ∙ ap (λ (a : ℕ). can_go m.script r a) c.actor_no-actor.ensures)
          c.loop-k.invariant
          )
      | else-can_go w ↦
          subst (λ (xs : List ℕ). AreReadyTo m xs (k + 1)) (sym (ap (λ v. v.items) w.ready-is))
          (
          ready_same m c.loop-k.ready.items k
          (λ r shown. sym w.if-can_go.false ∙ c.can_go.ensures r shown ∙ ap (λ (a : ℕ). can_go m.script r a) c.actor_no-actor.ensures)
          c.loop-k.invariant
          )
    ]

is_all : (k n m : ℕ) → n ≤ k → k ≤ n → n ≡ m → k ≡ m
is_all k n m least most is = omega arith

pub returns : goal.returns
returns c =
    ready_all c.args.machine.now c.loop-k.ready.items c.loop-k.k
    (
    is_all c.loop-k.k c.actors-k-end.result (length c.args.machine.now.script.actors) c.loop-k-test.false c.loop-k.auto.k-end
    (c.actors-k-end.ensures.count ∙ ap (λ (s : ScriptValue). length s.actors) c.script.ensures)
    )
    c.loop-k.invariant
