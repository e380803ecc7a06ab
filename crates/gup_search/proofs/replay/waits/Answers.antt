use Rattle.std.proofs.Common.{◌≡◌, ℕ, ◌+◌, ◌≤◌, List, length, Option, sym, ap, subst, ◌∙◌, arith}
use Rattle.gup_plain.specs.declared.note.Waiting.{Waiting}
use Rattle.gup_script.specs.Script.{ScriptValue}
use Rattle.gup_spec_turns.specs.Run.{waiting_in}
use Rattle.gup_search.proofs.Loops.{AreWaitsTo, waits_first, waits_more, waits_all}
use Rattle.gup_search.proofs.replay.waits.Goals as goal

pub loop-k-init : goal.loop-k-init
loop-k-init c = waits_first c.args.machine.now c.new-waits.result.items c.new-waits.ensures.items

pub loop-k-preserved : goal.loop-k-preserved
loop-k-preserved c =
    let m = c.args.machine.now in
    let k = c.loop-k.k in
    subst (λ (ws : List (Option Waiting)). AreWaitsTo m ws (k + 1)) (sym c.in_ok-push.ensures.items)
    (
    waits_more m c.loop-k.waits.items k c.waits.result
    (λ r shown. c.waits.ensures r shown ∙ ap (λ (a : ℕ). waiting_in m.script r a) c.actor_no.ensures)
    c.loop-k.invariant
    )

is_all : (k n m : ℕ) → n ≤ k → k ≤ n → n ≡ m → k ≡ m
is_all k n m least most is = omega arith

pub returns : goal.returns
returns c =
    waits_all c.args.machine.now c.loop-k.waits.items c.loop-k.k
    (
    is_all c.loop-k.k c.actors-k-end.result (length c.args.machine.now.script.actors) c.loop-k-test.false c.loop-k.auto.k-end
    (c.actors-k-end.ensures.count ∙ ap (λ (s : ScriptValue). length s.actors) c.script.ensures)
    )
    c.loop-k.invariant
