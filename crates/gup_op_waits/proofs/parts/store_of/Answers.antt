use Rattle.std.proofs.Common.{◌≡◌, ℕ, ◌<◌, length, sym, ap, ◌∙◌, subst, IfOk}
use Rattle.gup_spec_journal.specs.Place.{doer}
use Rattle.gup_op_waits.specs.Stores.{IsEmptyStore}
use Rattle.gup_op_waits.proofs.ScriptSlots.{slots_found, slots_fit, some_is}
use Rattle.gup_op_waits.proofs.parts.store_of.Goals as goal

pub empty_store-requires : goal.empty_store-requires
empty_store-requires c slots is =
    let same : c.unwrap.result ≡ c.args.a = some_is c.new.result c.unwrap.result c.from.result c.unwrap.ensures c.new.ensures.value ∙ c.from.ensures in
    slots_fit c.args.script.now c.unwrap.result slots c.kind.result c.actors-actors.ensures.valid (subst (λ (k : ℕ). k < length c.args.script.now.actors) (sym same) c.requires) c.kind.ensures is

pub returns : goal.returns
returns c =
    let same : c.unwrap.result ≡ c.args.a = some_is c.new.result c.unwrap.result c.from.result c.unwrap.ensures c.new.ensures.value ∙ c.from.ensures in
    let slots = slots_found c.args.script.now c.unwrap.result c.kind.result (subst (λ (k : ℕ). k < length c.args.script.now.actors) (sym same) c.requires) c.kind.ensures ∙ ap (λ (k : ℕ). (doer c.args.script.now k).slots) same in
    subst (λ (n : ℕ). IfOk c.empty_store.result (IsEmptyStore n)) slots c.empty_store.ensures
