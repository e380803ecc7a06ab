use Rattle.std.proofs.Common.{ℕ, refl, subst}
use Rattle.gup_maps.specs.Maps.{IsNextPage, IsLastPage}
use Rattle.gup_plain.specs.declared.answer.Answer.TheVariants as answers
use Rattle.gup_plain.specs.declared.event.PlainEvent.TheVariants as events
use Rattle.gup_op_pages.specs.Alone.{alone_view}
use Rattle.gup_space.specs.Space.{space_of}
use Rattle.gup_space.specs.Shows.{change_of}
use Rattle.gup_op_base.specs.Said.{answered_said, happened_said}
use Rattle.gup_op_pages.proofs.Unmapping.{exited, exited_none, below_numbers}
use Rattle.gup_op_pages.proofs.unmaps.exit.Goals as goal

pub returns-in_default : goal.returns-in_default
returns-in_default c =
    let a = c.args in
    record {
      said = answered_said answers.Plain;
      tells = c.answered.ensures;
      ends = refl;
      is_so =
          exited_none (alone_view a.frames.now a.space.now) a.head.now.actor a.proc
          (subst (IsLastPage (space_of a.space.now).right) c.first_page.ensures c.in_default.ensures);
    }

pub returns : goal.returns
returns c =
    let a = c.args in
    let S = space_of a.space.now in
    let change = change_of a.frames.now c.take_down-mapped.new.frames a.space.now c.take_down-mapped.new.space in
    let next : IsNextPage S.right 0 c.in-Some.page = subst (λ (from : ℕ). IsNextPage S.right from c.in-Some.page) c.first_page.ensures c.in-Some.ensures in
    record {
      said = happened_said (events.Unmap a.head.now.actor a.proc c.in-Some.page);
      tells = c.happened.ensures.says;
      ends = refl;
      is_so =
          exited change a.head.now.actor a.proc c.in-Some.page c.requires.table
          (below_numbers S c.in-Some.page c.requires.tidy.numbered next.mapped) next c.take_down-mapped.ensures.events;
    }
