use Rattle.std.proofs.Common.{ℕ, Bool, false, sym, ◌∙◌}
use Rattle.gup_exec_parts.specs.Flags.{flag_of}
use Rattle.gup_exec_parts.specs.Space.{copied_of}
use Rattle.gup_exec_parts.proofs.TableLemmas.{at_absent, key_updated, put_same}
use Rattle.gup_exec_parts.proofs.space.Space.touch.Goals as goal

pub returns-in_ok-insert-clause-copied : goal.returns-in_ok-insert-clause-copied
returns-in_ok-insert-clause-copied c =
    let before : ℕ → ℕ → Bool = copied_of c.args.self.now in
    let unset = flag_of c.in_ok-unset.field-0 in
    let absent = at_absent flag_of (λ _. false) c.args.self.now.copied c.args.page c.if-not-contains_key.ensures in
    key_updated flag_of (λ _. false) c.args.self.now.copied c.insert.new.self c.args.page c.in_ok-unset.field-0 c.in_ok-insert.ensures.updates.0
    ∙ put_same c.args.page before unset (c.in_ok-unset.ensures ∙ sym absent)
