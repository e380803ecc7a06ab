use Rattle.std.proofs.Common.{subst, sym}
use Rattle.gup_plain.specs.Put.{put}
use Rattle.gup_plain.specs.State.{PlainState, born}
use Rattle.gup_exec_plain.proofs.Made.{born_stays, as_many}
use Rattle.gup_exec_plain.specs.Parts.{IsMade, state_of}
use Rattle.gup_exec_plain.specs.declared.parts.Parts.{Parts}
use Rattle.gup_exec_plain.proofs.plain.Plain.birth.Goals as goal

pub invariant_of-self : goal.invariant_of-self
invariant_of-self c =
    let v : Parts = c.self.inside.parts in
    let P : PlainState → Type 0 = λ s. IsMade s in
    record {
      all = as_many v c.birth.new.self c.self.invariant.all c.birth.ensures.many;
      made = subst P (sym c.birth.ensures.state) (born_stays (state_of v) (put c.args.p born (state_of v).birth) c.self.invariant.made);
    }
