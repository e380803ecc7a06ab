-- By the operation that the actor stands at.
use Rattle.gup_law_costs.proofs.TurnCosts.{spent_turns, kept_cost, first_cost}
use Rattle.gup_law_costs.proofs.FewForks.{few_forks}
use Rattle.gup_law_costs.proofs.turns_are_spent.Goals as goal

pub returns-clause-spent : goal.returns-clause-spent
returns-clause-spent c script r a valid stands goes = spent_turns script valid r stands a goes

pub returns-clause-kept : goal.returns-clause-kept
returns-clause-kept c script r a stays = kept_cost script r a stays

pub returns-clause-start : goal.returns-clause-start
returns-clause-start c script valid = first_cost script valid

pub returns-clause-few_forks : goal.returns-clause-few_forks
returns-clause-few_forks c script valid = few_forks script valid
