use Rattle.gup_exec_parts.proofs.RangeLemmas.{nothing_between, something_between, none_next, some_next}
use Rattle.gup_exec_parts.proofs.pages.none_between.Goals as goal

-- src/pages.rt:59:1
pub returns-else-ge : goal.returns-else-ge
returns-else-ge c =
    let is = c.range.ensures.in_range tt in (
      λ free. nothing_between c.args.pages.now c.args.from c.args.below c.range.result is (none_next _ c.next.result c.is_none.result c.is_none.ensures c.next.ensures.steps free).0,
      λ free. some_next _ _ c.next.result c.is_none.result c.is_none.ensures c.next.ensures.steps (λ e next. something_between c.args.pages.now c.args.from c.args.below c.range.result is (e.0.now, e.1.now) c.next.new.self next free),
    )
