use Rattle.std.proofs.Common.{◌<◌, length, slice_get, slice_set, ◌++◌, sym, ap, ◌∙◌, arith}
use Rattle.gup_space.specs.Space.{SpaceParts}
use Rattle.gup_plain.specs.State.{Birth}
use Rattle.gup_spec_turns.specs.ForkTurns.{fork_turn}
use Rattle.gup_op_base.specs.Jobs.{place_of}
use Rattle.gup_op_fork.specs.Forked.{place_after, birth_after, ShowsForking, StandsAsFork, forking_view}
use Rattle.gup_op_base.specs.Said.{whats_of}
use Rattle.gup_op_base.specs.Turns.{IsTurnOf}
use Rattle.gup_op_turns.proofs.Parting.{front_there, back_there, front_now, back_now, others_now, below_other, four}
use Rattle.gup_op_turns.proofs.takes.fork_two.Goals as goal

-- the parent is in the front part, and the child first in the other
pub fork-requires-clause-parent : goal.fork-requires-clause-parent
fork-requires-clause-parent c =
    let a = c.args in
    let s = c.split_at_mut-low in
    let i = c.get-parent_at.result in
    let n = c.get-child_at.result in
    let below : i < n = c.if-parent_at-child_at.true in
    let within : i < length s.result.0.now = omega (arith, s.ensures.front_len, below) in
    let low_is = front_there a.spaces.now s.result.0.now s.result.1.now i a.proc c.index-low-parent_at.result s.ensures.value c.get-parent_at.ensures.value within in
    c.requires.tidy a.proc _ low_is

pub fork-requires-clause-child : goal.fork-requires-clause-child
fork-requires-clause-child c =
    let a = c.args in
    let s = c.split_at_mut-low in
    let some : 0 < length s.result.1.now = omega (arith, s.ensures.back_len, c.get-child_at.ensures.value, c.requires.child) in
    let high_is = back_there a.spaces.now s.result.0.now s.result.1.now c.get-child_at.result a.child c.index-high-0.result s.ensures.value c.get-child_at.ensures.value s.ensures.front_len some in
    c.requires.tidy a.child _ high_is

pub fork-requires-clause-sequence : goal.fork-requires-clause-sequence
fork-requires-clause-sequence c =
    let a = c.args in
    let s = c.split_at_mut-low in
    let i = c.get-parent_at.result in
    let n = c.get-child_at.result in
    let below : i < n = c.if-parent_at-child_at.true in
    let within : i < length s.result.0.now = omega (arith, s.ensures.front_len, below) in
    let low_is = front_there a.spaces.now s.result.0.now s.result.1.now i a.proc c.index-low-parent_at.result s.ensures.value c.get-parent_at.ensures.value within in
    c.requires.few_forks a.proc _ low_is

pub fork-requires-clause-place : goal.fork-requires-clause-place
fork-requires-clause-place c =
    let a = c.args in
    let s = c.split_at_mut-low in
    let i = c.get-parent_at.result in
    let n = c.get-child_at.result in
    let below : i < n = c.if-parent_at-child_at.true in
    let within : i < length s.result.0.now = omega (arith, s.ensures.front_len, below) in
    let low_is = front_there a.spaces.now s.result.0.now s.result.1.now i a.proc c.index-low-parent_at.result s.ensures.value c.get-parent_at.ensures.value within in
    let some : 0 < length s.result.1.now = omega (arith, s.ensures.back_len, c.get-child_at.ensures.value, c.requires.child) in
    let high_is = back_there a.spaces.now s.result.0.now s.result.1.now c.get-child_at.result a.child c.index-high-0.result s.ensures.value c.get-child_at.ensures.value s.ensures.front_len some in
    c.requires.place _ _ low_is high_is

pub returns-then-parent_at-child_at-clause-others : goal.returns-then-parent_at-child_at-clause-others
returns-then-parent_at-child_at-clause-others c q not_parent not_child =
    let s = c.split_at_mut-low in
    others_now s.result.0.now s.result.1.now c.get-child_at.result c.get-parent_at.result q c.fork.new.parent c.fork.new.child s.ensures.front_len
    (λ is. not_parent (is ∙ c.get-parent_at.ensures.value)) (λ is. not_child (is ∙ c.get-child_at.ensures.value)) ∙ ap (λ xs. slice_get xs q) (sym s.ensures.value)

pub returns-then-parent_at-child_at-clause-turn : goal.returns-then-parent_at-child_at-clause-turn
returns-then-parent_at-child_at-clause-turn c =
    let a = c.args in
    let actor = a.head.now.actor in
    let told = c.fork.ensures in
    let s = c.split_at_mut-low in
    let i = c.get-parent_at.result in
    let n = c.get-child_at.result in
    let below : i < n = c.if-parent_at-child_at.true in
    let within : i < length s.result.0.now = omega (arith, s.ensures.front_len, below) in
    let low_is = front_there a.spaces.now s.result.0.now s.result.1.now i a.proc c.index-low-parent_at.result s.ensures.value c.get-parent_at.ensures.value within in
    let some : 0 < length s.result.1.now = omega (arith, s.ensures.back_len, c.get-child_at.ensures.value, c.requires.child) in
    let high_is = back_there a.spaces.now s.result.0.now s.result.1.now c.get-child_at.result a.child c.index-high-0.result s.ensures.value c.get-child_at.ensures.value s.ensures.front_len some in
    let behind = slice_set s.result.0.now i c.fork.new.parent ++ slice_set s.result.1.now 0 c.fork.new.child in
    let low_now = ap (λ k. slice_get behind k) (sym c.get-parent_at.ensures.value) ∙ front_now s.result.0.now (slice_set s.result.1.now 0 c.fork.new.child) i c.fork.new.parent within in
    let high_now = ap (λ k. slice_get behind k) (sym c.get-child_at.ensures.value) ∙ back_now s.result.0.now s.result.1.now n i c.fork.new.parent c.fork.new.child s.ensures.front_len some in
    record {
      said = told.said;
      tells = told.tells;
      ends = told.ends;
      is_so = λ old_parent new_parent old_child new_child was_parent is_parent was_child is_child.
          four
          (λ (p p' k k' : SpaceParts). (birth : Birth) → IsTurnOf (ShowsForking actor a.proc a.child) (StandsAsFork actor a.proc a.child)
          (forking_view a.frames.now p k (place_of a.place) birth) (forking_view c.fork.new.frames p' k' (place_of (place_after c.fork.result)) (birth_after a.proc c.fork.result))
          (λ s. fork_turn s actor a.proc a.child (s.job actor)) (whats_of told.said))
          _ _ _ _ old_parent new_parent old_child new_child (sym low_is ∙ was_parent) (sym low_now ∙ is_parent) (sym high_is ∙ was_child) (sym high_now ∙ is_child) told.is_so;
    }

-- the child is in the front part, and the parent first in the other
pub fork-requires-else-parent_at-child_at-clause-parent : goal.fork-requires-else-parent_at-child_at-clause-parent
fork-requires-else-parent_at-child_at-clause-parent c =
    let a = c.args in
    let s = c.split_at_mut-low-else-parent_at-child_at in
    let some : 0 < length s.result.1.now = omega (arith, s.ensures.back_len, c.get-parent_at.ensures.value, c.requires.parent) in
    let high_is = back_there a.spaces.now s.result.0.now s.result.1.now c.get-parent_at.result a.proc c.index-high-0-else-parent_at-child_at.result s.ensures.value c.get-parent_at.ensures.value s.ensures.front_len some in
    c.requires.tidy a.proc _ high_is

pub fork-requires-else-parent_at-child_at-clause-child : goal.fork-requires-else-parent_at-child_at-clause-child
fork-requires-else-parent_at-child_at-clause-child c =
    let a = c.args in
    let s = c.split_at_mut-low-else-parent_at-child_at in
    let i = c.get-child_at.result in
    let n = c.get-parent_at.result in
    let below : i < n = below_other c.get-parent_at.result c.get-child_at.result c.if-parent_at-child_at.false (λ is. c.requires.apart (sym c.get-parent_at.ensures.value ∙ is ∙ c.get-child_at.ensures.value)) in
    let within : i < length s.result.0.now = omega (arith, s.ensures.front_len, below) in
    let low_is = front_there a.spaces.now s.result.0.now s.result.1.now i a.child c.index-low-child_at.result s.ensures.value c.get-child_at.ensures.value within in
    c.requires.tidy a.child _ low_is

pub fork-requires-else-parent_at-child_at-clause-sequence : goal.fork-requires-else-parent_at-child_at-clause-sequence
fork-requires-else-parent_at-child_at-clause-sequence c =
    let a = c.args in
    let s = c.split_at_mut-low-else-parent_at-child_at in
    let some : 0 < length s.result.1.now = omega (arith, s.ensures.back_len, c.get-parent_at.ensures.value, c.requires.parent) in
    let high_is = back_there a.spaces.now s.result.0.now s.result.1.now c.get-parent_at.result a.proc c.index-high-0-else-parent_at-child_at.result s.ensures.value c.get-parent_at.ensures.value s.ensures.front_len some in
    c.requires.few_forks a.proc _ high_is

pub fork-requires-else-parent_at-child_at-clause-place : goal.fork-requires-else-parent_at-child_at-clause-place
fork-requires-else-parent_at-child_at-clause-place c =
    let a = c.args in
    let s = c.split_at_mut-low-else-parent_at-child_at in
    let i = c.get-child_at.result in
    let n = c.get-parent_at.result in
    let below : i < n = below_other c.get-parent_at.result c.get-child_at.result c.if-parent_at-child_at.false (λ is. c.requires.apart (sym c.get-parent_at.ensures.value ∙ is ∙ c.get-child_at.ensures.value)) in
    let within : i < length s.result.0.now = omega (arith, s.ensures.front_len, below) in
    let low_is = front_there a.spaces.now s.result.0.now s.result.1.now i a.child c.index-low-child_at.result s.ensures.value c.get-child_at.ensures.value within in
    let some : 0 < length s.result.1.now = omega (arith, s.ensures.back_len, c.get-parent_at.ensures.value, c.requires.parent) in
    let high_is = back_there a.spaces.now s.result.0.now s.result.1.now c.get-parent_at.result a.proc c.index-high-0-else-parent_at-child_at.result s.ensures.value c.get-parent_at.ensures.value s.ensures.front_len some in
    c.requires.place _ _ high_is low_is

pub returns-else-parent_at-child_at-clause-others : goal.returns-else-parent_at-child_at-clause-others
returns-else-parent_at-child_at-clause-others c q not_parent not_child =
    let s = c.split_at_mut-low-else-parent_at-child_at in
    others_now s.result.0.now s.result.1.now c.get-parent_at.result c.get-child_at.result q c.fork-else-parent_at-child_at.new.child c.fork-else-parent_at-child_at.new.parent s.ensures.front_len
    (λ is. not_child (is ∙ c.get-child_at.ensures.value)) (λ is. not_parent (is ∙ c.get-parent_at.ensures.value)) ∙ ap (λ xs. slice_get xs q) (sym s.ensures.value)

pub returns-else-parent_at-child_at-clause-turn : goal.returns-else-parent_at-child_at-clause-turn
returns-else-parent_at-child_at-clause-turn c =
    let a = c.args in
    let actor = a.head.now.actor in
    let told = c.fork-else-parent_at-child_at.ensures in
    let s = c.split_at_mut-low-else-parent_at-child_at in
    let i = c.get-child_at.result in
    let n = c.get-parent_at.result in
    let below : i < n = below_other c.get-parent_at.result c.get-child_at.result c.if-parent_at-child_at.false (λ is. c.requires.apart (sym c.get-parent_at.ensures.value ∙ is ∙ c.get-child_at.ensures.value)) in
    let within : i < length s.result.0.now = omega (arith, s.ensures.front_len, below) in
    let low_is = front_there a.spaces.now s.result.0.now s.result.1.now i a.child c.index-low-child_at.result s.ensures.value c.get-child_at.ensures.value within in
    let some : 0 < length s.result.1.now = omega (arith, s.ensures.back_len, c.get-parent_at.ensures.value, c.requires.parent) in
    let high_is = back_there a.spaces.now s.result.0.now s.result.1.now c.get-parent_at.result a.proc c.index-high-0-else-parent_at-child_at.result s.ensures.value c.get-parent_at.ensures.value s.ensures.front_len some in
    let behind = slice_set s.result.0.now i c.fork-else-parent_at-child_at.new.child ++ slice_set s.result.1.now 0 c.fork-else-parent_at-child_at.new.parent in
    let low_now = ap (λ k. slice_get behind k) (sym c.get-child_at.ensures.value) ∙ front_now s.result.0.now (slice_set s.result.1.now 0 c.fork-else-parent_at-child_at.new.parent) i c.fork-else-parent_at-child_at.new.child within in
    let high_now = ap (λ k. slice_get behind k) (sym c.get-parent_at.ensures.value) ∙ back_now s.result.0.now s.result.1.now n i c.fork-else-parent_at-child_at.new.child c.fork-else-parent_at-child_at.new.parent s.ensures.front_len some in
    record {
      said = told.said;
      tells = told.tells;
      ends = told.ends;
      is_so = λ old_parent new_parent old_child new_child was_parent is_parent was_child is_child.
          four
          (λ (p p' k k' : SpaceParts). (birth : Birth) → IsTurnOf (ShowsForking actor a.proc a.child) (StandsAsFork actor a.proc a.child)
          (forking_view a.frames.now p k (place_of a.place) birth) (forking_view c.fork-else-parent_at-child_at.new.frames p' k' (place_of (place_after c.fork-else-parent_at-child_at.result)) (birth_after a.proc c.fork-else-parent_at-child_at.result))
          (λ s. fork_turn s actor a.proc a.child (s.job actor)) (whats_of told.said))
          _ _ _ _ old_parent new_parent old_child new_child (sym high_is ∙ was_parent) (sym high_now ∙ is_parent) (sym low_is ∙ was_child) (sym low_now ∙ is_child) told.is_so;
    }
