use Rattle.std.proofs.Common.{◌<◌, List, length, ap, ◌∙◌, arith}
use Rattle.gup_plain.specs.Put.{put}
use Rattle.gup_plain.specs.State.{Handle, unmade}
use Rattle.gup_exec_parts.proofs.TableLemmas.{place_put}
use Rattle.gup_exec_rows.specs.Handles.{handles_in}
use Rattle.gup_exec_rows.proofs.handles.Handles.hold.Goals as goal

pub returns : goal.returns
unfolding handles_in
returns c =
    let items : List Handle = c.args.self.now.pins.items in
    let index = c.get.ensures.value in
    let small = c.get.ensures.below in
    let inside : c.args.h < length items = omega (arith, c.args.self.now.pins.ok.0, c.args.self.now.sized) in
    place_put (λ (x : Handle). x) unmade items c.args.h c.get.result c.hold.new.self c.get.ensures.value inside
    ∙ ap (λ (x : Handle). put c.args.h x (handles_in c.args.self.now)) c.hold.ensures
