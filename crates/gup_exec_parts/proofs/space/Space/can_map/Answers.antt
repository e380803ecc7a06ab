use Rattle.std.proofs.Common.{◌+◌, ◌≤◌, Option, refl, ap, arith}
use Rattle.gup_plain.specs.Event.{page_numbers}
use Rattle.gup_exec_parts.specs.declared.pages.Page.{Page}
use Rattle.gup_exec_parts.specs.Pages.{right_in}
use Rattle.gup_exec_parts.specs.Space.{seen}
use Rattle.gup_exec_parts.proofs.SpaceLemmas.{page_numbers-is, absurd_truth, too-far, right_none}
use Rattle.gup_exec_parts.proofs.space.Space.can_map.Goals as goal

pub returns-then-get-from-gt-PAGE_NUMBERS : goal.returns-then-get-from-gt-PAGE_NUMBERS
returns-then-get-from-gt-PAGE_NUMBERS c =
    (λ h. absurd_truth h, λ can. absurd (too-far (seen c.args.self.now) c.args.page c.args.n (omega arith) can))

pub returns : goal.returns
returns c =
    let is = page_numbers-is in
    let bound : c.args.page + c.args.n ≤ page_numbers = omega arith in (
      λ h. (c.if-not-is_born.ensures.0 refl, bound, λ k small. ap (λ (o : Option Page). right_in o) (c.are_free.ensures.0 h k small), omega arith),
      λ can. c.are_free.ensures.1 (λ k small. right_none _ (can.2 k small)),
    )
