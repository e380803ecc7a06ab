use Rattle.std.proofs.Common.{◌≡◌, ℕ, Bool, true, false, is_some, if◌then◌else◌, Option, Some, None, sym, ap, ◌∙◌, subst}
use Rattle.gup_spec_turns.specs.Emptying.{has_page, invalidate}
use Rattle.gup_spec_turns.specs.Turn.{op_turn}
use Rattle.gup_notify.specs.Mirrors.{MirrorsValue, mirrors_of, without}
use Rattle.gup_op_waits.specs.Doers.{HasProcess, IsProcessOf}
use Rattle.gup_op_waits.specs.Stands.{StandsAt}
use Rattle.gup_op_mirrors.specs.Ranges.{range_of}
use Rattle.gup_op_mirrors.specs.declared.ranges.Pages.{Pages}
use Rattle.gup_op_mirrors.proofs.EmptiedSlots.{has_entry, left_shown, none_left, without_left, without_none, device_none}
use Rattle.gup_op_mirrors.proofs.empties.empty_filled.Goals as goal

no_truth : false ≡ true → ⊥
no_truth never = cc never

-- what a device does by itself
pub returns-in_default : goal.returns-in_default
returns-in_default c s t who slots k shown mirrored sound of_who far place at left notes =
    let a = c.args.actor in
    let op = c.args.op.now in
    let old : MirrorsValue = mirrors_of c.args.mirrors.now in
    let none : HasProcess op → ⊥ =
    λ has. let never : false ≡ true = sym (ap is_some c.in_default.is) ∙ c.requires.process has in absurd (no_truth never) in
    none_left old s t (op_turn s a who.proc slots k op).events mirrored left notes
    (λ m filled is. device_none s a who.proc slots k op none filled.proc filled.page (has_entry s old sound mirrored m filled is))

pub returns-in_default-pages_to_empty : goal.returns-in_default-pages_to_empty
returns-in_default-pages_to_empty c s t who slots k shown mirrored sound of_who far place at left notes =
    let a = c.args.actor in
    let op = c.args.op.now in
    let old : MirrorsValue = mirrors_of c.args.mirrors.now in
    let same : who.proc ≡ c.in-Some.proc = (subst (λ (o : Option ℕ). IsProcessOf who o) c.in-Some.is of_who).1 in
    none_left old s t (op_turn s a who.proc slots k op).events mirrored left notes
    (λ m filled is.
    ap (λ (r : ℕ). invalidate (op_turn s a r slots k op).events filled.proc filled.page) same
    ∙ c.pages_to_empty.ensures s slots k filled.proc filled.page shown far place (subst (λ (r : ℕ). StandsAt s a r k op) same at) (has_entry s old sound mirrored m filled is)
    ∙ ap (λ (r : Option Pages). has_page (range_of r) filled.proc filled.page) c.in_default-pages_to_empty.is)

pub returns-in-Some-pages_to_empty : goal.returns-in-Some-pages_to_empty
returns-in-Some-pages_to_empty c s t who slots k shown mirrored sound of_who far place at left notes =
    let a = c.args.actor in
    let op = c.args.op.now in
    let old : MirrorsValue = mirrors_of c.args.mirrors.now in
    let new : MirrorsValue = mirrors_of c.invalidate_pages.new.self in
    let pages = c.in-Some-pages_to_empty.pages in
    let same : who.proc ≡ c.in-Some.proc = (subst (λ (o : Option ℕ). IsProcessOf who o) c.in-Some.is of_who).1 in
    let emptied : (m : ℕ) → new m ≡ without pages.proc pages.page pages.n old m = λ m. ap (λ (f : MirrorsValue). f m) c.invalidate_pages.ensures.emptied in
    left_shown old new s t (op_turn s a who.proc slots k op).events mirrored left notes
    (λ m filled is.
    emptied m ∙ without_left pages.proc pages.page pages.n m old filled is
    ∙ ap (λ (b : Bool). if b then None else Some filled)
    (sym (ap (λ (r : ℕ). invalidate (op_turn s a r slots k op).events filled.proc filled.page) same
    ∙ c.pages_to_empty.ensures s slots k filled.proc filled.page shown far place (subst (λ (r : ℕ). StandsAt s a r k op) same at) (has_entry s old sound mirrored m filled is)
    ∙ ap (λ (r : Option Pages). has_page (range_of r) filled.proc filled.page) c.in-Some-pages_to_empty.is)))
    (λ m is. emptied m ∙ without_none pages.proc pages.page pages.n m old is)
