use Rattle.gup_frames.specs.Frames.{frames_of}
use Rattle.gup_space.specs.Space.{space_of}
use Rattle.gup_op_fork.proofs.Forking.{first_place}
use Rattle.gup_op_fork.proofs.forks.fork.Goals as goal

pub returns-in_default : goal.returns-in_default
returns-in_default c =
    let x = c.args in
    let turn = c.first_turn.ensures in
    let place = first_place (frames_of x.frames.now) x.head.now.actor (space_of x.parent.now) (space_of x.child.now) x.place c.in_default.not-From c.in_default.not-At c.in_default.not-Wanting c.in_default.not-Copying c.requires.place in
    rw place (record { said = turn.said; tells = turn.tells; ends = turn.ends; is_so = turn.is_so x.frames.now })

pub returns-in-From : goal.returns-in-From
returns-in-From c = rw c.in-From.is c.next_turn.ensures

pub returns-in-At : goal.returns-in-At
returns-in-At c = rw c.in-At.is c.share_turn.ensures

pub returns-in-Wanting : goal.returns-in-Wanting
returns-in-Wanting c = rw c.in-Wanting.is c.frame_turn.ensures

pub returns-in-Copying : goal.returns-in-Copying
returns-in-Copying c = rw c.in-Copying.is c.copy_turn.ensures
