use Rattle.std.proofs.Common.{ℕ, ap, sym, ◌∙◌}
use Rattle.gup_exec_parts.specs.Space.{SpaceState}
use Rattle.gup_exec_plain.specs.declared.parts.Parts.{Parts}
use Rattle.gup_exec_plain.specs.Parts.{spaces_of}
use Rattle.gup_exec_plain.proofs.Unnamed.{no_entry, no_right, nothing_first, lacks_first}
use Rattle.gup_exec_plain.proofs.plain.Plain.has_no_page.Goals as goal

-- src/plain.rt:107:5
pub returns : goal.returns
returns c =
    let m = c.space.result.now.pages in
    let first = c.first_key_value in
    let same = λ (page : ℕ).
    ap (λ (x : SpaceState). x.page page) c.space.ensures
    ∙ ap (λ (v : Parts). (spaces_of v c.args.p).page page) c.self.view_is in (
      λ empty page. no_right _ (sym (same page) ∙ nothing_first m _ _ c.is_none.ensures first.ensures.variant empty page),
      λ lacks. lacks_first (λ e. e.0.now) (λ e. e.1.now) m _ _ c.is_none.ensures first.ensures.value (λ page. same page ∙ no_entry _ (lacks page)),
    )
