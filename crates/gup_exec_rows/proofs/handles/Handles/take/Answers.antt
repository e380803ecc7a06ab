use Rattle.std.proofs.Common.{◌≡◌, ◌<◌, Bool, true, false, List, length, sym, subst, ap, ◌∙◌, arith}
use Rattle.std.specs.Bool.{MatchBool}
use Rattle.gup_plain.specs.Put.{put}
use Rattle.gup_plain.specs.State.{Handle, unmade}
use Rattle.gup_plain.specs.Event.{IsGivenTo, held_by}
use Rattle.gup_exec_parts.proofs.TableLemmas.{place_put, place_is}
use Rattle.gup_exec_rows.specs.Handles.{handles_in}
use Rattle.gup_exec_rows.proofs.handles.Handles.take.Goals as goal

chosen : {P Q : Type 0} (R : Type 0) (b : Bool) → P → MatchBool b (P × Q) ((P → ⊥) × R) → Q
chosen R true p h = h.1
chosen R false p h = absurd (h.0 p)

pub returns : goal.returns
unfolding handles_in
returns c =
    let items : List Handle = c.args.self.now.pins.items in
    let was : Handle = c.index_mut-pin.result.now in
    let index = c.get.ensures.value in
    let small = c.get.ensures.below in
    let inside : c.args.h < length items = omega (arith, c.args.self.now.pins.ok.0, c.args.self.now.sized) in
    let same : handles_in c.args.self.now c.args.h ≡ was = place_is (λ (x : Handle). x) unmade items c.args.h c.get.result was c.get.ensures.value inside c.index_mut-pin.ensures.value in
    let P : Handle → Type 0 = λ x. IsGivenTo x c.args.a in
    let now = chosen _ c.take-given.result (subst P same c.requires) c.take-given.ensures in
    let change : Handle → Handle = λ (x : Handle). held_by x c.args.a in
    place_put (λ (x : Handle). x) unmade items c.args.h c.get.result c.take-given.new.self c.get.ensures.value inside
    ∙ ap (λ (x : Handle). put c.args.h x (handles_in c.args.self.now)) (now ∙ ap change (sym same))
