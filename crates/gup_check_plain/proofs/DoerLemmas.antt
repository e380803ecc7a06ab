-- Who does an operation.
use Rattle.std.proofs.Common.{◌≡◌, ℕ, Bool, true, false, Option, Some, None, is_some}
use Rattle.std.specs.Prelude.{unwrap_or, MatchOption}
use Rattle.std.specs.Option.{option_or}
use Rattle.gup_script.specs.Limits.{most_processes}
use Rattle.gup_script.specs.declared.op.Op.{Op}
use Rattle.gup_spec_journal.specs.Place.{Doer, concerned, is_of_process, process_of_op}

abbrev named_doer : (actor : ℕ) → Option ℕ → (slots : ℕ) → Doer
named_doer actor process slots =
    record { actor = actor; of_process = is_some process; proc = unwrap_or process most_processes; slots = slots }

-- the process that the operation names, or else the actor's own
pub named_or_own : (named own : Option ℕ) (op : Option Op) (who : Doer) →
    MatchOption named ((b : Bool) (n : ℕ) → (is_of_process b op ≡ b) × (process_of_op n op ≡ n)) (λ p. (b : Bool) (n : ℕ) → (is_of_process b op ≡ true) × (process_of_op n op ≡ p)) →
    MatchOption own ((who.of_process ≡ false) × (who.proc ≡ most_processes)) (λ p. (who.of_process ≡ true) × (who.proc ≡ p)) →
    named_doer who.actor (option_or named own) who.slots ≡ concerned who op
named_or_own (Some p) own op who named_is own_is =
    let is = named_is who.of_process who.proc in cc
named_or_own None (Some p) op who named_is own_is =
    let is = named_is who.of_process who.proc in cc
named_or_own None None op who named_is own_is =
    let is = named_is who.of_process who.proc in cc
