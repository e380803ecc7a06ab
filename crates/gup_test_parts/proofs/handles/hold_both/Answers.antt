use Rattle.std.proofs.Common.{ℕ, ap}
use Rattle.gup_handles.specs.Handles.{HandleValue, handles_of}
use Rattle.gup_handles.proofs.Unmade.{other_unmade}
use Rattle.gup_test_parts.proofs.handles.hold_both.Goals as goal

pub hold-requires-clause-unmade : goal.hold-requires-clause-unmade
hold-requires-clause-unmade c = ap (λ (f : ℕ → HandleValue). f c.args.pin) c.in_ok-handles.ensures

pub hold_got-requires : goal.hold_got-requires
hold_got-requires c =
    other_unmade (handles_of c.in_ok-handles.handles) (handles_of c.hold.new.self) _ _ c.args.reference c.hold.ensures.held c.requires.two c.in_ok-handles.ensures
