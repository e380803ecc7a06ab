use Rattle.std.proofs.Common.{◌≡◌, vec_len}
use Rattle.gup_handles.specs.Handles.{unmade, handles_of}
use Rattle.gup_handles.proofs.handles.Handles.new.Given as goal

-- so many unmade handles so far
abbrev pub invariant-loop-h : goal.invariant-loop-h
invariant-loop-h l = record { len : vec_len l.handles ≡ l._h; unmade : handles_of l.handles.items ≡ (λ _. unmade) }
