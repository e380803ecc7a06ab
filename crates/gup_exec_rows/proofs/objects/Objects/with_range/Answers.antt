use Rattle.std.proofs.Common.{◌≡◌, ℕ, ◌+◌, ◌-◌, Option, subst, ap, ◌∙◌, arith}
use Rattle.gup_plain.specs.Put.{spread}
use Rattle.gup_exec_parts.proofs.TableLemmas.{grown}
use Rattle.gup_exec_rows.specs.Objects.{objects_in, numbers, object_of}
use Rattle.gup_exec_rows.proofs.ObjectLemmas.{numbers_put, spread_none, object_behind}
use Rattle.gup_exec_rows.proofs.objects.Objects.with_range.Goals as goal

pub loop-k-init : goal.loop-k-init
unfolding objects_in numbers
loop-k-init c =
    ap (λ (f : ℕ → Option ℕ). λ q. object_of (f q)) c.in_ok-row.ensures
    ∙ spread_none c.args.first (λ page. c.args.object + (page - c.args.first)) (objects_in c.args.self.now c.args.p)

pub loop-k-preserved : goal.loop-k-preserved
loop-k-preserved c =
    let more = numbers_put c.loop-k.row c.insert.new.self c.nth.result (c.args.object + c.from.result) c.in_ok-insert.ensures.updates.0 in
    grown (objects_in c.args.self.now c.args.p) (λ page. c.args.object + (page - c.args.first)) (numbers c.loop-k.row) (numbers c.insert.new.self) c.args.first c.loop-k.k c.nth.result (c.args.object + c.from.result)
    c.loop-k.invariant c.nth.ensures more (rw c.from.ensures (object_behind c.args.object c.args.first c.loop-k.k))

pub returns : goal.returns
returns c =
    let P : ℕ → Type 0 = λ j. numbers c.loop-k.row ≡ spread c.args.first j (λ page. c.args.object + (page - c.args.first)) (objects_in c.args.self.now c.args.p) in
    let test = c.loop-k-test.false in
    let end = c.loop-k.auto.k-end in
    let all : c.loop-k.k ≡ c.args.n = omega arith in
    subst P all c.loop-k.invariant
