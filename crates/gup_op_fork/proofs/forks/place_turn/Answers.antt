use Rattle.std.proofs.Common.{[], ◌∷◌, refl}
use Rattle.gup_frames.specs.Frames.{frames_of}
use Rattle.gup_space.specs.Space.{space_of}
use Rattle.gup_fork.specs.Forks.{fork_change_of}
use Rattle.gup_spec_events.specs.Event.{place_child}
use Rattle.gup_op_base.specs.Said.{silent_said}
use Rattle.gup_op_fork.proofs.Forking.{other_parent}
use Rattle.gup_op_fork.proofs.Copying.{copy_turned}
use Rattle.gup_op_fork.proofs.forks.place_turn.Goals as goal

pub returns : goal.returns
returns c p d word all =
    let x = c.args in
    let k = fork_change_of x.frames.now c.place_child.new.frames x.parent.now c.set_table.new.self x.child.now c.place_child.new.child in
    rw c.get.ensures.value
    (record {
      said = silent_said;
      tells = c.silent.ensures;
      ends = refl;
      is_so =
          copy_turned k x.head.now.actor p d x.page word x.to all c.requires.ready.1
          (λ done rights mapped. other_parent (frames_of x.frames.now) (frames_of c.place_child.new.frames) (space_of x.parent.now) _ (space_of c.set_table.new.self) (space_of x.child.now) (space_of c.place_child.new.child)
          (λ q e. place_child x.head.now.actor q e done x.page x.to rights ∷ []) c.set_table.ensures (c.place_child.ensures.events x.head.now.actor done rights mapped));
    })
