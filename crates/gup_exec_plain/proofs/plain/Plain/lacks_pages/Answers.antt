use Rattle.std.proofs.Common.{ℕ, ap, sym, ◌∙◌}
use Rattle.gup_exec_parts.specs.Space.{SpaceState}
use Rattle.gup_exec_plain.specs.declared.parts.Parts.{Parts}
use Rattle.gup_exec_plain.specs.Parts.{spaces_of}
use Rattle.gup_exec_plain.proofs.Unnamed.{no_entry, no_right}
use Rattle.gup_exec_plain.proofs.plain.Plain.lacks_pages.Goals as goal

-- src/plain.rt:95:5
pub returns : goal.returns
returns c =
    let same = λ (page : ℕ).
    ap (λ (x : SpaceState). x.page page) c.space.ensures
    ∙ ap (λ (v : Parts). (spaces_of v c.args.p).page page) c.self.view_is in (
      λ free page from below. no_right _ (sym (same page) ∙ c.none_between.ensures.0 free page from below),
      λ lacks. c.none_between.ensures.1 (λ page from below. same page ∙ no_entry _ (lacks page from below)),
    )
