use Rattle.std.proofs.Common.{◌≡◌, ℕ, ◌<◌, ◌↔◌, Bool, true, false, IsTrue, sym, subst}
use Rattle.gup_exec_parts.specs.Flags.{flag_of}
use Rattle.gup_exec_parts.proofs.TableLemmas.{at_found}
use Rattle.gup_exec_parts.proofs.space.Space.has_copied_page.Goals as goal

pub returns-in-Some : goal.returns-in-Some
returns-in-Some c =
    let same = at_found flag_of (λ _. false) c.args.self.now.copied c.args.page c.in-Some.flags.now c.in-Some.ensures.value in
    let P : (ℕ → Bool) → Type 0 = λ f. IsTrue c.is_full.result ↔ ((word : ℕ) → word < 512 → f word ≡ true) in
    subst P (sym same) c.is_full.ensures
