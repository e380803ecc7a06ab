use Rattle.std.proofs.Common.{◌≡◌, ◌++◌}
use Rattle.gup_notify.specs.Mirrors.{mirrors_of}
use Rattle.gup_image.specs.Gathered.{gathered}
use Rattle.gup_image.specs.Image.{slot_fact}
use Rattle.gup_image.proofs.handles.push_slots.Given as goal

abbrev pub invariant-loop-m : goal.invariant-loop-m
invariant-loop-m l = l.facts.items ≡ l.initial.facts.items ++ gathered (λ m. slot_fact m (mirrors_of l.mirrors m)) l.m
