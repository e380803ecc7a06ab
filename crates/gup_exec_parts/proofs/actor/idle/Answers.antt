use Rattle.std.proofs.Common.{◌≡◌, ℕ, [], refl, arith}
use Rattle.std.proofs.Math.Path.{fun_ext}
use Rattle.std.specs.BTreeMap.{BTreeMap}
use Rattle.gup_exec_parts.specs.Actor.{slots_in, store_of}
use Rattle.gup_exec_parts.specs.declared.actor.Actor.{Actor}
use Rattle.gup_exec_parts.proofs.TableLemmas.{place_push}
use Rattle.gup_exec_parts.proofs.actor.idle.Goals as goal

-- a store without entries has zeros
empty-slots : (m : BTreeMap ℕ ℕ) → m.entries ≡ [] → slots_in m ≡ (λ _. 0)
empty-slots m is = fun_ext (λ k. rw is refl)

pub loop-a-preserved : goal.loop-a-preserved
loop-a-preserved c =
    let len = c.in_ok-push.ensures.len in
    let actor : Actor = record { taken = c.new.result; store = c.new-in-loop-a.result } in
    record {
      len = omega arith;
      taken = rw c.in_ok-push.ensures.items (place_push (λ (a : Actor). a.taken.items) [] c.loop-a.actors.items actor c.new.ensures.items c.loop-a.invariant.taken);
      store = rw c.in_ok-push.ensures.items (place_push store_of (λ _. 0) c.loop-a.actors.items actor (empty-slots c.new-in-loop-a.result c.new-in-loop-a.ensures.empty) c.loop-a.invariant.store);
    }
