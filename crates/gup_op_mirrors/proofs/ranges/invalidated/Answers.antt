use Rattle.std.proofs.Common.{◌≡◌, ℕ, Option, None, Some, sym, ap, ◌∙◌}
use Rattle.gup_frames.specs.Frames.{frames_of}
use Rattle.gup_space.specs.Space.{space_of}
use Rattle.gup_spec_turns.specs.Emptying.{has_page}
use Rattle.gup_law_mirrors.specs.Invalidated.{page_in, pages_in, range_from}
use Rattle.gup_op_mirrors.specs.Ranges.{range_of}
use Rattle.gup_op_mirrors.specs.declared.ranges.Pages.{Pages}
use Rattle.gup_op_mirrors.proofs.StandingPlaces.{maps_each}
use Rattle.gup_op_mirrors.proofs.ranges.invalidated.Goals as goal

pub returns-in_err-page : goal.returns-in_err-page
returns-in_err-page c s a slots k frames space kid place many fits at q g some =
    let p = c.args.proc in
    let op = c.args.op.now in
    let maps = maps_each (frames_of c.args.frames.now) (space_of c.args.space.now) s p c.requires.tidy space in
    let none : page_in s a p k op ≡ None = sym (c.first_page.ensures s a p k frames space kid place many fits at) ∙ c.in_err-page.was in
    c.turns_invalidate_pages.ensures s a p slots k op c.requires.op maps q g some
    ∙ ap (λ (page : Option ℕ). has_page (range_from p (pages_in op) page) q g) none
    ∙ sym (ap (λ (pages : Option Pages). has_page (range_of pages) q g) c.from_residual.ensures)

pub returns : goal.returns
returns c s a slots k frames space kid place many fits at q g some =
    let p = c.args.proc in
    let op = c.args.op.now in
    let maps = maps_each (frames_of c.args.frames.now) (space_of c.args.space.now) s p c.requires.tidy space in
    let found : page_in s a p k op ≡ Some c.in_ok-page.page = sym (c.first_page.ensures s a p k frames space kid place many fits at) ∙ c.in_ok-page.was in
    c.turns_invalidate_pages.ensures s a p slots k op c.requires.op maps q g some
    ∙ ap (λ (page : Option ℕ). has_page (range_from p (pages_in op) page) q g) found
    ∙ ap (λ (n : ℕ). has_page (range_from p n (Some c.in_ok-page.page)) q g) (sym c.page_count-n.ensures)
