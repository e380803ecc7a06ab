use Rattle.std.proofs.Common.{ℕ, Option, ◌∙◌, ap}
use Rattle.gup_base.specs.declared.entry.Rights.{Rights}
use Rattle.gup_spec_events.specs.State.{CoreState}
use Rattle.gup_plain.specs.Put.{put}
use Rattle.gup_exec_rows.specs.Grid.{found}
use Rattle.gup_exec_core.specs.State.{state_of}
use Rattle.gup_exec_core.proofs.trial.Trial.protect_pages.Goals as goal

pub returns : goal.returns
returns c =
    let old = c.args.self.now in
    let N : CoreState = state_of old in
    let R = found old.right in
    let can = c.can_protect.ensures.0 c.in_ok-need-3.ensures in (
      (c.is_born.ensures.0 c.in_ok-need.ensures, c.is_unlocked.ensures.0 c.in_ok-need-2.ensures, can.0, can.1, can.2),
      ap (λ (x : ℕ → ℕ → Option Rights). record N { right = x }) (c.put.ensures ∙ ap (λ (f : ℕ → Option Rights). put c.args.p f R) c.in_ok-row.ensures),
    )
