use Rattle.std.proofs.Common.{◌≡◌, ℕ, ◌+◌, ◌≤◌, ◌∙◌, subst, arith}
use Rattle.gup_plain.specs.State.{growing}
use Rattle.gup_spec_turns.specs.ForkTurns.{fork_turn}
use Rattle.gup_spec_turns.specs.JobPlace.{at_word}
use Rattle.gup_op_base.specs.Said.{whats_of}
use Rattle.gup_op_base.specs.Turns.{IsTurnOf}
use Rattle.gup_op_fork.specs.Forked.{ShowsForking, StandsAsFork, forking_view}
use Rattle.gup_op_fork.proofs.forks.copy_turn.Goals as goal

pub returns : goal.returns
returns c =
    let x = c.args in
    let a = x.head.now.actor in
    let told = c.word_turn.ensures in
    let same : c.in-Some.next ≡ x.word = c.in-Some.ensures.value ∙ c.from.ensures in
    record {
      said = told.said;
      tells = told.tells;
      ends = told.ends;
      is_so = λ birth.
          subst (λ (word : ℕ). IsTurnOf (ShowsForking a x.proc x.child_no) (StandsAsFork a x.proc x.child_no)
          (forking_view x.frames.now x.parent.now x.child.now (at_word x.page word x.to) birth)
          (forking_view c.word_turn.new.frames x.parent.now x.child.now (at_word x.page (word + 1) x.to) (growing x.proc))
          (λ s. fork_turn s a x.proc x.child_no (s.job a)) (whats_of told.said)) same (told.is_so x.child.now birth);
    }

pub returns-in_default : goal.returns-in_default
returns-in_default c =
    let x = c.args in
    let all : 512 ≤ x.word = grind (arith, c.in_default.ensures.some, c.from.ensures) in
    c.place_turn.ensures x.proc x.child_no x.word all
