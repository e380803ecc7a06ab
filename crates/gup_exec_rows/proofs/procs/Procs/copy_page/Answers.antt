use Rattle.std.proofs.Common.{ℕ, Bool, true, List, ap, arith}
use Rattle.gup_plain.specs.Put.{spread}
use Rattle.gup_exec_parts.specs.Space.{birth_of}
use Rattle.gup_exec_parts.specs.declared.space.Birth.{Birth as Stage}
use Rattle.gup_exec_parts.specs.declared.space.Space.{Space}
use Rattle.gup_exec_rows.proofs.ProcLemmas.{AtProc, births_kept, copies_put2, has_room}
use Rattle.gup_exec_rows.specs.Procs.{births, copies, space_at, HasRoom}
use Rattle.gup_exec_rows.proofs.procs.Procs.copy_page.Goals as goal

pub copy_page-requires : goal.copy_page-requires
unfolding HasRoom
copy_page-requires c =
    let items : List Space = c.args.self.now.spaces.items in
    let was : Space = c.index_mut-space.result.now in
    let index = c.get.ensures.value in
    let small = c.get.ensures.below in
    let at : AtProc items c.args.p c.get.result was = record { index = c.get.ensures.value; below = omega (arith, c.args.self.now.spaces.ok.0, c.args.self.now.sized); is = c.index_mut-space.ensures.value } in
    has_room items c.args.p c.get.result c.args.page was at c.requires

pub returns-clause-births : goal.returns-clause-births
unfolding births space_at
returns-clause-births c =
    let items : List Space = c.args.self.now.spaces.items in
    let was : Space = c.index_mut-space.result.now in
    let index = c.get.ensures.value in
    let small = c.get.ensures.below in
    let at : AtProc items c.args.p c.get.result was = record { index = c.get.ensures.value; below = omega (arith, c.args.self.now.spaces.ok.0, c.args.self.now.sized); is = c.index_mut-space.ensures.value } in
    births_kept items c.args.p c.get.result was c.copy_page.new.self at (ap (λ (b : Stage). birth_of b) c.copy_page.ensures.birth)

pub returns-clause-copies : goal.returns-clause-copies
unfolding copies space_at
returns-clause-copies c =
    let items : List Space = c.args.self.now.spaces.items in
    let was : Space = c.index_mut-space.result.now in
    let index = c.get.ensures.value in
    let small = c.get.ensures.below in
    let at : AtProc items c.args.p c.get.result was = record { index = c.get.ensures.value; below = omega (arith, c.args.self.now.spaces.ok.0, c.args.self.now.sized); is = c.index_mut-space.ensures.value } in
    copies_put2 items c.args.p c.get.result c.args.page was c.copy_page.new.self (λ (f : ℕ → Bool). spread 0 512 (λ _. true) f) at c.copy_page.ensures.copied
