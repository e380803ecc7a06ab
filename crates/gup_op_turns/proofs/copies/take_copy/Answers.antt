use Rattle.std.proofs.Common.{refl, sym, ◌∙◌}
use Rattle.gup_plain.specs.State.{Birth}
use Rattle.gup_space.specs.Space.{SpaceParts}
use Rattle.gup_spec_turns.specs.ForkTurns.{fork_turn}
use Rattle.gup_op_base.specs.Jobs.{place_of}
use Rattle.gup_op_base.specs.Said.{whats_of}
use Rattle.gup_op_base.specs.Turns.{IsTurnOf}
use Rattle.gup_op_fork.specs.Forked.{birth_after, ShowsForking, StandsAsFork, forking_view}
use Rattle.gup_op_fork.specs.declared.forks.Forked.TheVariants.{Goes}
use Rattle.gup_op_waits.specs.declared.parts.Parts.{Parts}
use Rattle.gup_op_turns.specs.Copies.{copying, copied}
use Rattle.gup_op_tables.proofs.Replaced.{was_there}
use Rattle.gup_op_turns.proofs.Parting.{four}
use Rattle.gup_op_turns.proofs.Turning.{IsForkTurns, there, forked}
use Rattle.gup_op_turns.proofs.copies.take_copy.Goals as goal

pub word_turn-requires-clause-entry : goal.word_turn-requires-clause-entry
word_turn-requires-clause-entry c =
    let spaces = c.args.parts.now.spaces.items in
    let copy = c.args.copy.now in
    let parent = was_there spaces c.get.result copy.proc c.index.result.now c.index.ensures c.get.ensures.value c.requires.there in
    let kid = there spaces copy.child c.requires.fork.there in
    (c.requires.fork.stands c.index.result.now kid.0 parent kid.1).1.0

pub word_turn-requires-clause-copy : goal.word_turn-requires-clause-copy
word_turn-requires-clause-copy c =
    let spaces = c.args.parts.now.spaces.items in
    let copy = c.args.copy.now in
    let parent = was_there spaces c.get.result copy.proc c.index.result.now c.index.ensures c.get.ensures.value c.requires.there in
    let kid = there spaces copy.child c.requires.fork.there in
    (c.requires.fork.stands c.index.result.now kid.0 parent kid.1).2

pub returns-clause-turn : goal.returns-clause-turn
returns-clause-turn c =
    let actor = c.args.head.now.actor in
    let old = c.args.parts.now in
    let spaces = old.spaces.items in
    let copy = c.args.copy.now in
    let told = c.word_turn.ensures in
    let parent = was_there spaces c.get.result copy.proc c.index.result.now c.index.ensures c.get.ensures.value c.requires.there in
    let new : Parts =
    record {
      frames = c.word_turn.new.frames;
      spaces = old.spaces;
      births = c.set_birth.new.births;
      handles = old.handles;
      taken = old.taken;
      stores = old.stores;
    } in
    let turn : IsForkTurns old.frames new.frames spaces spaces actor copy.proc copy.child (copying copy) (Goes (copied copy)) (whats_of told.said) =
    λ old_parent new_parent old_child new_child was_parent is_parent was_child is_child.
    four
    (λ (p p' k k' : SpaceParts). (birth : Birth) → IsTurnOf (ShowsForking actor copy.proc copy.child) (StandsAsFork actor copy.proc copy.child)
    (forking_view old.frames p k (place_of (copying copy)) birth) (forking_view new.frames p' k' (place_of (copied copy)) (birth_after copy.proc (Goes (copied copy))))
    (λ s. fork_turn s actor copy.proc copy.child (s.job actor)) (whats_of told.said))
    c.index.result.now c.index.result.now old_child old_child old_parent new_parent old_child new_child
    (sym parent ∙ was_parent) (sym parent ∙ is_parent) refl (sym was_child ∙ is_child) (told.is_so old_child) in
    record {
      said = told.said;
      tells = told.tells;
      ends = told.ends;
      is_so = λ slots k rest left.
          forked old new actor copy.proc copy.child slots 0 (copying copy) (Goes (copied copy)) (whats_of told.said)
          c.requires.fork.apart c.requires.there c.requires.fork.there refl refl refl refl (λ q apart other. refl) turn
          c.set_birth.ensures.here c.set_birth.ensures.others k rest left refl;
    }
