use Rattle.std.proofs.Common.{◌≡◌, ◌++◌}
use Rattle.gup_handles.specs.Handles.{handles_of}
use Rattle.gup_image.specs.Gathered.{gathered}
use Rattle.gup_image.specs.Image.{handle_facts}
use Rattle.gup_image.proofs.handles.push_handles.Given as goal

abbrev pub invariant-loop-h : goal.invariant-loop-h
invariant-loop-h l = l.facts.items ≡ l.initial.facts.items ++ gathered (λ h. handle_facts h (handles_of l.handles h)) l.h
