use Rattle.std.proofs.Common.{ℕ, Bool, false, refl, ◌∙◌, ap}
use Rattle.gup_exec_parts.proofs.TableLemmas.{put_same}
use Rattle.gup_plain.specs.Put.{put}
use Rattle.gup_plain.specs.State.{Birth, born}
use Rattle.gup_exec_core.proofs.trial.one_born.Goals as goal

pub returns-clause-births : goal.returns-clause-births
returns-clause-births c =
    c.be_born.ensures.births ∙ ap (λ (f : ℕ → Birth). put c.args.first born f) c.in_ok-procs.ensures.births

pub returns-clause-copies : goal.returns-clause-copies
returns-clause-copies c =
    c.be_born.ensures.copies
    ∙ ap (λ (f : ℕ → ℕ → ℕ → Bool). put c.args.first (λ _ _. false) f) c.in_ok-procs.ensures.copies
    ∙ put_same c.args.first (λ _ _ _. false) (λ _ _. false) refl
