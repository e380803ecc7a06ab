use Rattle.std.proofs.Common.{List, ap, arith, Result, Ok, Err, OnOk}
use Rattle.gup_exec_parts.specs.Space.{birth_of}
use Rattle.gup_exec_parts.specs.declared.space.Birth.{Birth as Stage}
use Rattle.gup_exec_parts.specs.declared.space.Space.{Space}
use Rattle.gup_exec_rows.proofs.ProcLemmas.{AtProc, births_kept, copies_kept, gets_room}
use Rattle.gup_exec_rows.specs.Procs.{births, copies, space_at, HasRoom}
use Rattle.gup_exec_rows.proofs.procs.Procs.touch.Goals as goal

on-ok : {T E P Q : Type 0} (r : Result T E) → (P → Q) → OnOk r P → OnOk r Q
on-ok (Ok x) more h = more h
on-ok (Err e) more h = h

pub returns-clause-room : goal.returns-clause-room
unfolding HasRoom
returns-clause-room c =
    let items : List Space = c.args.self.now.spaces.items in
    let was : Space = c.index_mut-space.result.now in
    let index = c.get.ensures.value in
    let small = c.get.ensures.below in
    let at : AtProc items c.args.p c.get.result was = record { index = c.get.ensures.value; below = omega (arith, c.args.self.now.spaces.ok.0, c.args.self.now.sized); is = c.index_mut-space.ensures.value } in
    on-ok c.touch.result (λ there. gets_room items c.args.p c.get.result c.args.page was c.touch.new.self at there) c.touch.ensures.room

pub returns-clause-births : goal.returns-clause-births
unfolding births space_at
returns-clause-births c =
    let items : List Space = c.args.self.now.spaces.items in
    let was : Space = c.index_mut-space.result.now in
    let index = c.get.ensures.value in
    let small = c.get.ensures.below in
    let at : AtProc items c.args.p c.get.result was = record { index = c.get.ensures.value; below = omega (arith, c.args.self.now.spaces.ok.0, c.args.self.now.sized); is = c.index_mut-space.ensures.value } in
    births_kept items c.args.p c.get.result was c.touch.new.self at (ap (λ (b : Stage). birth_of b) c.touch.ensures.birth)

pub returns-clause-copies : goal.returns-clause-copies
unfolding copies space_at
returns-clause-copies c =
    let items : List Space = c.args.self.now.spaces.items in
    let was : Space = c.index_mut-space.result.now in
    let index = c.get.ensures.value in
    let small = c.get.ensures.below in
    let at : AtProc items c.args.p c.get.result was = record { index = c.get.ensures.value; below = omega (arith, c.args.self.now.spaces.ok.0, c.args.self.now.sized); is = c.index_mut-space.ensures.value } in
    copies_kept items c.args.p c.get.result was c.touch.new.self at c.touch.ensures.copied
