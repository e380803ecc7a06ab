use Rattle.std.proofs.Common.{ap, ◌∙◌}
use Rattle.gup_space.specs.Space.{SpaceValue}
use Rattle.gup_test_pages.proofs.forks.fail_child.Goals as goal

pub fail_here-requires : goal.fail_here-requires
fail_here-requires g c page = ap (λ (s : SpaceValue). s.entry page) c.begin_here.ensures ∙ c.in_ok-child.ensures page
