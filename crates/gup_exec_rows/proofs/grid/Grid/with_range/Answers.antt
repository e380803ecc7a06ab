use Rattle.std.proofs.Common.{◌≡◌, ℕ, Some, refl, subst, arith}
use Rattle.std.specs.BTreeMap.{get}
use Rattle.std.specs.Ordering.{nat_cmp}
use Rattle.gup_plain.specs.Put.{spread}
use Rattle.gup_exec_parts.proofs.TableLemmas.{updated, grown}
use Rattle.gup_exec_rows.specs.Grid.{found}
use Rattle.gup_exec_rows.proofs.grid.Grid.with_range.Goals as goal

pub loop-k-preserved : goal.loop-k-preserved
loop-k-preserved g c =
    let more = updated (get nat_cmp c.loop-k.row) (get nat_cmp c.insert.new.self) c.nth.result (Some c.args.value) c.in_ok-insert.ensures.updates.0 in
    grown (found c.args.self.now c.args.p) (λ _. Some c.args.value) (get nat_cmp c.loop-k.row) (get nat_cmp c.insert.new.self) c.args.first c.loop-k.k c.nth.result (Some c.args.value)
    c.loop-k.invariant c.nth.ensures more refl

pub returns : goal.returns
returns g c =
    let P : ℕ → Type 0 = λ j. get nat_cmp c.loop-k.row ≡ spread c.args.first j (λ _. Some c.args.value) (found c.args.self.now c.args.p) in
    let test = c.loop-k-test.false in
    let end = c.loop-k.auto.k-end in
    let all : c.loop-k.k ≡ c.args.n = omega arith in
    subst P all c.loop-k.invariant
