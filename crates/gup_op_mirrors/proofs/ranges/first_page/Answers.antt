use Rattle.std.proofs.Common.{◌≡◌, ◌+◌, ◌==◌, ◌&&◌, not, Bool, sym, ap, ◌∙◌}
use Rattle.std.specs.Option.{option_copied}
use Rattle.gup_frames.specs.Frames.{frames_of}
use Rattle.gup_space.specs.Space.{space_of}
use Rattle.gup_spec_turns.specs.JobPlace.{JobPlace}
use Rattle.gup_op_base.specs.Jobs.{place_of}
use Rattle.gup_law_mirrors.specs.Invalidated.{page_if, changes_page}
use Rattle.gup_op_mirrors.specs.Places.{at_beginning}
use Rattle.gup_op_mirrors.proofs.StandingPlaces.{protect_page, pin_less, pin_page, shared_page}
use Rattle.gup_op_mirrors.proofs.ranges.first_page.Goals as goal
use Rattle.gup_op_mirrors.proofs.ranges.first_page.Goals.{then-fast, else-fast}

pub returns-in-Protect : goal.returns-in-Protect
returns-in-Protect c s a p k frames space kid place many fits at =
    let protect = c.in-Protect in
    c.page_if.ensures
    ∙ ap (λ (b : Bool). page_if b protect.page) c.are_mapped.ensures
    ∙ protect_page (space_of c.args.space.now) s a p k protect.page protect.n protect.rights c.args.op.now protect.is space

pub returns-in-Fork : goal.returns-in-Fork
returns-in-Fork c s a p k frames space kid place many fits at =
    let fork = c.in-Fork in
    c.shared.ensures
    ∙ shared_page (frames_of c.args.frames.now) (option_copied c.args.child) s a p k fork.child (place_of c.args.place.now) c.args.op.now fork.is frames kid place

pub returns-after-fast : goal.returns-after-fast
returns-after-fast c s a p k frames space kid place many fits at =
    let pin = c.in-Pin in
    let op = c.args.op.now in
    let got = c.args.got in
    let stands : JobPlace = place_of c.args.place.now in
    let begins : c.if-fast.pinned ≡ (pin.fast && c.args.far == 0) =
    elim c.if-fast.branch [
      | then-fast w ↦ w.pinned-is ∙ ap (λ (fast : Bool). fast && c.args.far == 0) (sym w.if-fast.true)
      | else-fast w ↦ w.pinned-is ∙ w.if-fast.false ∙ ap (λ (fast : Bool). fast && c.args.far == 0) (sym w.if-fast.false)
    ] in
    c.pinned.ensures s p frames space (pin_less s a p k got pin.handle pin.page pin.n pin.want pin.fast stands op pin.is c.requires.op many place at)
    ∙ ap (λ (b : Bool). at_beginning stands (page_if (not b && changes_page s p (pin.page + got) pin.want) (pin.page + got))) begins
    ∙ pin_page s a p k c.args.far got pin.handle pin.page pin.n pin.want pin.fast stands op pin.is fits many place at
