use Rattle.std.proofs.Common.{false, List, ap, arith}
use Rattle.gup_plain.specs.State.{failed}
use Rattle.gup_exec_parts.specs.Space.{SpaceState}
use Rattle.gup_exec_parts.specs.declared.space.Space.{Space}
use Rattle.gup_exec_rows.proofs.ProcLemmas.{AtProc, births_put, copies_put}
use Rattle.gup_exec_rows.specs.Procs.{births, copies, space_at}
use Rattle.gup_exec_rows.proofs.procs.Procs.fail.Goals as goal

pub returns-clause-births : goal.returns-clause-births
unfolding births space_at
returns-clause-births c =
    let items : List Space = c.args.self.now.spaces.items in
    let was : Space = c.index_mut-space.result.now in
    let index = c.get.ensures.value in
    let small = c.get.ensures.below in
    let at : AtProc items c.args.p c.get.result was = record { index = c.get.ensures.value; below = omega (arith, c.args.self.now.spaces.ok.0, c.args.self.now.sized); is = c.index_mut-space.ensures.value } in
    births_put items c.args.p c.get.result was c.fail.new.self (failed) at (ap (λ (s : SpaceState). s.birth) c.fail.ensures)

pub returns-clause-copies : goal.returns-clause-copies
unfolding copies space_at
returns-clause-copies c =
    let items : List Space = c.args.self.now.spaces.items in
    let was : Space = c.index_mut-space.result.now in
    let index = c.get.ensures.value in
    let small = c.get.ensures.below in
    let at : AtProc items c.args.p c.get.result was = record { index = c.get.ensures.value; below = omega (arith, c.args.self.now.spaces.ok.0, c.args.self.now.sized); is = c.index_mut-space.ensures.value } in
    copies_put items c.args.p c.get.result was c.fail.new.self (λ _ _. false) at (ap (λ (s : SpaceState). s.copied) c.fail.ensures)
