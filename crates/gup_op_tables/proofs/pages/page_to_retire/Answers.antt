use Rattle.std.proofs.Common.{◌≡◌, ℕ, List, Option, sym, ap, subst, ◌∙◌}
use Rattle.gup_base.specs.declared.entry.Rights.{Rights}
use Rattle.gup_script.specs.declared.op.Op.{Op}
use Rattle.gup_space.specs.Space.{space_of}
use Rattle.gup_spec_tables.specs.declared.place.Place.{Place}
use Rattle.gup_spec_turns.specs.PageTurns.{lowest_page}
use Rattle.gup_spec_turns.specs.TableTurns.{lowest_spot}
use Rattle.gup_op_tables.specs.Spots.{spot_of, IsDown, retired_spot}
use Rattle.gup_op_tables.proofs.pages.page_to_retire.Goals as goal

pub returns-in-Exit-clause-spot : goal.returns-in-Exit-clause-spot
returns-in-Exit-clause-spot c s k shown far =
    let p = c.args.proc in
    let space = space_of c.args.space.now in
    let at = spot_of c.emptied.result in
    let want : lowest_spot p (lowest_page space.right) ≡ retired_spot (s.right p) p k c.args.op.now =
    sym (ap (λ (op : Op). retired_spot (s.right p) p k op) c.in-Exit.is
    ∙ ap (λ (right : ℕ → Option Rights). lowest_spot p (lowest_page right)) (λ i page. shown.right page i)) in
    subst (IsDown (s.place p) (s.retired p) at) want
    (subst (λ (place : ℕ → Option Place). IsDown place (s.retired p) at (lowest_spot p (lowest_page space.right))) (sym shown.place)
    (subst (λ (retired : List ℕ). IsDown space.place retired at (lowest_spot p (lowest_page space.right))) (sym shown.retired) c.emptied.ensures.spot))
