use Rattle.std.proofs.Common.{◌≡◌, vec_len}
use Rattle.gup_plain.specs.State.{Handle, unmade}
use Rattle.gup_exec_parts.specs.Tables.{at_place}
use Rattle.gup_exec_parts.proofs.pin.pins.Given as goal

-- so many unmade handles so far
abbrev pub invariant-loop-h : goal.invariant-loop-h
invariant-loop-h l = record { len : vec_len l.pins ≡ l._h; unmade : at_place (λ (h : Handle). h) unmade l.pins.items ≡ (λ _. unmade) }
