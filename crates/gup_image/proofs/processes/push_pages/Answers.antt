use Rattle.std.proofs.Common.{◌+◌, ◌<◌, ◌≤◌, ◌^◌, ◌++◌, ◌∙◌, ℕ, ap, sym, arith}
use Rattle.gup_plain.specs.Pages.{page_numbers}
use Rattle.gup_space.specs.Space.{space_of}
use Rattle.gup_image.specs.Gathered.{gathered}
use Rattle.gup_image.specs.Image.{pages}
use Rattle.gup_image.proofs.Pages.{page_put, pages_all}
use Rattle.gup_image.proofs.processes.push_pages.Goals as goal

next_within : (n : ℕ) → n < 2 ^ 35 → n + 1 ≤ page_numbers
unfolding page_numbers
next_within n below = omega arith

pub loop-page-preserved : goal.loop-page-preserved
loop-page-preserved c =
    let p = c.args.proc in
    let s = space_of c.args.space.now in
    let next = page_put p s.right s.entry c.loop-page.from c.in-Some.page c.args.facts.now.items c.loop-page.facts.items c.push_page.new.facts.items c.in-Some.ensures c.loop-page.invariant.0 c.in_ok-push_page.ensures in (
      next ∙ ap (λ (k : ℕ). c.args.facts.now.items ++ gathered (pages p s) (k + 1)) (sym c.get-from.ensures.value),
      next_within c.get-from.result c.get-from.ensures.below,
    )

pub loop-page-smaller : goal.loop-page-smaller
loop-page-smaller c =
    let within = next_within c.get-from.result c.get-from.ensures.below in
    omega (arith, within, c.get-from.ensures.value, c.in-Some.ensures.above)

pub returns : goal.returns
returns c =
    let s = space_of c.args.space.now in
    pages_all c.args.proc s.right s.entry c.loop-page.from page_numbers c.args.facts.now.items c.loop-page.facts.items c.loop-page.invariant.1 c.in_default.ensures c.loop-page.invariant.0
