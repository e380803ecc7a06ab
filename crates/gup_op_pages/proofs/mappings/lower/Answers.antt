use Rattle.std.proofs.Common.{ℕ, subst}
use Rattle.gup_op_pages.specs.Lowered.{IsLowered}
use Rattle.gup_space.specs.Space.{space_of}
use Rattle.gup_op_pages.proofs.Mapping.{lowered_none, lowered_more, still_mapped}
use Rattle.gup_op_pages.proofs.mappings.lower.Goals as goal

pub loop-k-init : goal.loop-k-init
loop-k-init c = lowered_none c.args.page (space_of c.args.space.now)

pub lower_page-requires : goal.lower_page-requires
lower_page-requires c = still_mapped c.args.page c.loop-k.k (space_of c.args.space.now) (space_of c.loop-k.space) c.loop-k.invariant c.requires.mapped

pub loop-k-preserved : goal.loop-k-preserved
loop-k-preserved c =
    let S = space_of c.args.space.now in
    let N = space_of c.lower_page.new.space in
    let M = space_of c.loop-k.space in
    lowered_more c.args.page c.loop-k.k S M N c.loop-k.invariant (subst (λ (g : ℕ). IsLowered g 1 M N) c.page_behind.ensures c.lower_page.ensures)
