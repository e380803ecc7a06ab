use Rattle.std.proofs.Common.{List, rules, subst}
use Rattle.std.proofs.lemmas.List.Sorted.{IsNonDecreasingBy-from_sort_by_key, answers_always}
use Rattle.std.specs.List.Sorted.{IsStableByKey}
use Rattle.std.specs.Ordering.{nat_cmp}
use Rattle.gup_lines.specs.declared.outcome.Outcome.{Outcome}
use Rattle.gup_lines.proofs.outcome.Outcomes.sort_by_actor.Goals as goal

pub returns-clause-sorted : goal.returns-clause-sorted
returns-clause-sorted c =
    IsNonDecreasingBy-from_sort_by_key (λ outcome. outcome.actor) _ c.in_ok-sort_by_key.ensures.sorted (λ a r q k. search rules)

pub returns-clause-stable : goal.returns-clause-stable
returns-clause-stable c =
    subst (λ (outcomes : List Outcome). IsStableByKey (λ outcome. outcome.actor) nat_cmp outcomes c.sort_by_key.new.self.items) c.self.view_is
    (c.sort_by_key.ensures.stable (λ outcome. outcome.actor) (answers_always _ _ _ (λ f a r g h. search rules)))
