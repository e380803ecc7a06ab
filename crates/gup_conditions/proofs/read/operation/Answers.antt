use Rattle.std.proofs.Common.{◌≡◌, ℕ, true, false, sym, ◌∙◌, subst, arith}
use Rattle.gup_script.specs.declared.op.Op.{Op}
use Rattle.gup_script.specs.Script.{actor_at}
use Rattle.gup_lines.specs.Text.{name_in}
use Rattle.gup_conditions.specs.Reading.{HasOperation}
use Rattle.gup_read_words.proofs.SpelledNumbers.{number_found}
use Rattle.gup_conditions.proofs.ConditionLines.{small_number}
use Rattle.gup_conditions.proofs.FoundOperations.{number_is, none_more, no_number_in, nowhere}
use Rattle.gup_conditions.proofs.read.operation.Goals.{then-is_named+in_default, else-is_named}
use Rattle.gup_conditions.proofs.read.operation.Goals as goal

pub returns-in_err-k : goal.returns-in_err-k
returns-in_err-k c = rw c.from_residual.ensures (no_number_in c.args.script.now c.args.name.now c.args.number_word.now (sym c.number.ensures ∙ c.in_err-k.was))

pub overflow_cast-result : goal.overflow_cast-result
overflow_cast-result c =
    let small = small_number c.args.script.now c.actors-a-end.ensures.valid c.unwrap-actor.result c.in_ok-k.k c.in-Some.op.now c.in-Some.ensures in
    omega (arith, small)

pub returns-in-Some : goal.returns-in-Some
returns-in-Some c = record {
  name_is = c.is_named.ensures.0 c.if-is_named.true;
  number_is = (number_found c.args.number_word.now c.in_ok-k.k (sym c.number.ensures ∙ c.in_ok-k.was)).0;
  has = c.in-Some.ensures;
}

pub loop-a-preserved : goal.loop-a-preserved
loop-a-preserved c =
    let script = c.args.script.now in
    let name = c.args.name.now in
    let k = c.in_ok-k.k in
    let same : c.unwrap-actor.result ≡ c.loop-a.a = number_is c.new.result c.unwrap-actor.result c.from.result c.unwrap-actor.ensures c.new.ensures.value ∙ c.from.ensures in
    let here : (op : Op) → name_in (actor_at script c.unwrap-actor.result) ≡ name → HasOperation script c.unwrap-actor.result k op → ⊥ =
    elim c.if-is_named.branch [
      | then-is_named+in_default w ↦ λ op named has. w.in_default.ensures op has
      | else-is_named w ↦ λ op named has.
          let is : c.is_named.result ≡ true = c.is_named.ensures.1 named in
          let isnt : c.is_named.result ≡ false = w.if-is_named.false in
          absurd (cc)
    ] in
    none_more script name k c.loop-a.a c.loop-a.invariant (subst (λ (x : ℕ). (op : Op) → name_in (actor_at script x) ≡ name → HasOperation script x k op → ⊥) same here)

pub returns : goal.returns
returns c = nowhere c.args.script.now c.args.name.now c.args.number_word.now c.in_ok-k.k c.loop-a.a (sym c.number.ensures ∙ c.in_ok-k.was) (omega arith) c.loop-a.invariant
