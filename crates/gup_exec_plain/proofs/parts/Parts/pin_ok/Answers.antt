use Rattle.std.proofs.Common.{◌≡◌, Bool, vec_len, List, refl, sym, subst, ◌∙◌, ap, arith, ◌<◌}
use Rattle.gup_plain.specs.Event.{pending_objects, AreTaken, write_flag}
use Rattle.gup_plain.specs.State.{Pending, Handle, unmade}
use Rattle.gup_exec_plain.proofs.Actors.{AtActor, pending-at, pin_made, pin-at}
use Rattle.gup_exec_plain.specs.Parts.{pending_of}
use Rattle.gup_exec_parts.specs.declared.actor.Actor.{Actor}
use Rattle.gup_exec_plain.specs.declared.parts.Parts.{Parts}
use Rattle.gup_exec_plain.proofs.parts.Parts.pin_ok.Goals as goal

pub returns-clause-event : goal.returns-clause-event
returns-clause-event c =
    let v : Parts = c.args.self.now in
    let was : Actor = c.index_mut-by.result.now in
    let at : AtActor v c.args.actor c.get-2.result was = record { index = c.get-2.ensures.value; below = c.requires.actor; is = c.index_mut-by.ensures.value } in
    let pending = pending-at v c.args.actor c.get-2.result was at in
    let first : c.deref.result.now ≡ pending_of v c.args.actor = c.deref.ensures.value ∙ sym pending in
    let again : c.deref-2.result.now ≡ pending_of v c.args.actor = c.deref-2.ensures.value ∙ sym pending in
    let below : c.args.handle < vec_len v.pins = omega arith in
    let unmade_before : Handle → Type 0 = λ h. h ≡ unmade in
    let P : Bool → Type 0 = λ w. AreTaken c.deref.result.now w in
    let Q : List Pending → Type 0 = λ taken. AreTaken taken (write_flag taken) in
    let agreed = c.in-Some.ensures in (
      (
        subst unmade_before (sym (pin-at v c.args.handle c.get.result c.index_mut-pin.result.now c.get.ensures.value below c.index_mut-pin.ensures.value)) (c.if-not-is_unmade.ensures.0 refl),
        subst Q first (subst P agreed.1 agreed.0),
      ),
      pin_made v c.args.actor c.args.handle c.get-2.result c.get.result was (record was { taken = c.clear.new.self }) c.hold.new.self c.in_ok-objects.objects.items c.in-Some.write
          at c.get.ensures.value below refl c.clear.ensures.items c.hold.ensures
          (c.in_ok-objects.ensures ∙ ap (λ (taken : List Pending). pending_objects taken) again)
          (agreed.1 ∙ ap (λ (taken : List Pending). write_flag taken) first),
    )
