use Rattle.std.proofs.Common.{ℕ, ap, ◌∙◌}
use Rattle.gup_plain.specs.Put.{put}
use Rattle.gup_exec_parts.proofs.TableLemmas.{key_updated}
use Rattle.gup_exec_rows.proofs.stores.Stores.with.Goals as goal

pub returns : goal.returns
returns c =
    key_updated (λ (w : ℕ). w) 0 c.in_ok-row.row c.insert.new.self c.args.slot c.args.value c.in_ok-insert.ensures.updates.0
    ∙ ap (λ (f : ℕ → ℕ). put c.args.slot c.args.value f) c.in_ok-row.ensures
