use Rattle.std.proofs.Common.{◌≡◌, true, is_none, Option, Some, None, IsSome, refl, sym, ap, ◌∙◌, subst}
use Rattle.gup_base.specs.declared.entry.Entry.{Entry}
use Rattle.gup_base.specs.declared.entry.Rights.{Rights}
use Rattle.gup_plain.specs.Denial.{pin_denial}
use Rattle.gup_plain.specs.declared.answer.Answer.{Answer}
use Rattle.gup_space.specs.Space.{SpaceValue, space_of, lacking}
use Rattle.gup_law_mirrors.specs.Invalidated.{changes_entry, changes_in}
use Rattle.gup_op_mirrors.proofs.changes.changes_page.Goals as goal

none_of : (o : Option Answer) → is_none o ≡ true → o ≡ None
none_of None none = refl
none_of (Some answer) some = absurd (cc)

pub returns-then-may_pin : goal.returns-then-may_pin
returns-then-may_pin c s p frames space =
    let S : SpaceValue = space_of c.args.space.now in
    let page = c.args.page in
    let want = c.args.want in
    let found : S.entry page ≡ Some c.in-Some.entry = sym c.entry.ensures ∙ c.in-Some.is in
    let path : lacking S page ≡ 0 = c.has_path.ensures (subst (λ (o : Option Entry). IsSome o) (sym found) refl) in
    let allowed : pin_denial want.write (S.right page) ≡ None =
    ap (pin_denial want.write) (sym c.rights_at.ensures) ∙ none_of (pin_denial want.write c.rights_at.result) (sym c.may_pin.ensures ∙ c.if-may_pin.true) in
    c.changes_entry.ensures S s p page frames space path
    ∙ sym
    (ap (λ (r : Option Rights). changes_in (pin_denial want.write r) (s.entry p page) (changes_entry s p page want)) (space.right page)
    ∙ ap (λ (d : Option Answer). changes_in d (s.entry p page) (changes_entry s p page want)) allowed
    ∙ ap (λ (o : Option Entry). changes_in None o (changes_entry s p page want)) (space.entry page ∙ found))
