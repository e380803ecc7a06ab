use Rattle.std.proofs.Common.{arith}
use Rattle.gup_exec_parts.specs.Space.{seen}
use Rattle.gup_exec_parts.proofs.SpaceLemmas.{absurd_truth, too-far-to-protect}
use Rattle.gup_exec_parts.proofs.space.Space.can_protect.Goals as goal

pub returns-then-get-from-gt-PAGE_NUMBERS-clause-can : goal.returns-then-get-from-gt-PAGE_NUMBERS-clause-can
returns-then-get-from-gt-PAGE_NUMBERS-clause-can c =
    (λ h. absurd_truth h, λ can. absurd (too-far-to-protect (seen c.args.self.now) c.args.page c.args.n c.requires (omega arith) (omega arith) can))
