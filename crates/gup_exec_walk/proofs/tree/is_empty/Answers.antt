use Rattle.std.proofs.Common.{◌≡◌, ◌==◌, not, true, ap, sym, ◌∙◌, Bool, arith}
use Rattle.gup_spec_events.specs.Event.{tree_in}
use Rattle.gup_spec_tables.specs.Tables.{on_path, word_here}
use Rattle.gup_exec_core.specs.State.{state_of}
use Rattle.gup_exec_walk.proofs.Emptied.{not_empty, all_empty}
use Rattle.gup_exec_walk.proofs.tree.is_empty.Goals as goal

pub returns-then-not-is_zero : goal.returns-then-not-is_zero
returns-then-not-is_zero c =
    let v = tree_in (state_of c.args.trial.now) c.args.p in
    let some : not (word_here v (on_path c.args.level c.args.page) c.loop-i.i == 0) ≡ true = ap (λ (b : Bool). not b) (sym c.is_zero.ensures ∙ c.if-not-is_zero.true) in
    not_empty (λ i. not (word_here v (on_path c.args.level c.args.page) i == 0)) c.loop-i.i c.loop-i-test.true some

pub returns : goal.returns
returns c =
    let v = tree_in (state_of c.args.trial.now) c.args.p in
    let end = c.loop-i-test.false in
    all_empty (λ i. not (word_here v (on_path c.args.level c.args.page) i == 0)) (λ j less. c.loop-i.invariant j (omega (arith, less, end)))
