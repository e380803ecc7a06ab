use Rattle.std.proofs.Common.{◌≡◌, map, string_bytes, rules, arith, ◌∙◌, sym, refl, subst}
use Rattle.std.proofs.lemmas.List.Elements.{same_from_all_zip}
use Rattle.gup_script.specs.Valid.{IsScript}
use Rattle.gup_script.specs.Views.{process_value, actor_value, script_value}
use Rattle.gup_script.proofs.Copies.{map_of_copies}
use Rattle.gup_script.specs.declared.op.Op.{Op}
use Rattle.gup_script.specs.contracts.op.OpClone.TheImpl.{by_variants}
use Rattle.gup_script.proofs.script.Script.copy.Goals as goal

op_copied : (x y : Op) → by_variants x y → y ≡ x
op_copied x y e = grind (arith, e)

-- the copy's value is the script's
same : (c : goal.In_ok-clone) → script_value c.in_ok-clone.field-0 ≡ script_value c.self.inside.contents
same c =
    let h = c.in_ok-clone.ensures.cases in
    let processes : map process_value c.in_ok-clone.field-0.processes.items ≡ map process_value c.self.inside.contents.processes.items = map_of_copies _ process_value (λ x y e. search rules) _ _ h.1.1.1.0.0 in
    let actors : map actor_value c.in_ok-clone.field-0.actors.items ≡ map actor_value c.self.inside.contents.actors.items = map_of_copies _ actor_value (λ x y e. let ops = same_from_all_zip _ _ _ e.1.1.0 op_copied in rw (e.0, ops) search rules) _ _ h.1.1.1.1.0.0 in
    let handles : map string_bytes c.in_ok-clone.field-0.handles.items ≡ map string_bytes c.self.inside.contents.handles.items = map_of_copies _ string_bytes (λ x y e. search rules) _ _ h.1.1.1.1.1.0.0 in
    let mirrors : map string_bytes c.in_ok-clone.field-0.mirrors.items ≡ map string_bytes c.self.inside.contents.mirrors.items = map_of_copies _ string_bytes (λ x y e. search rules) _ _ h.1.1.1.1.1.1.0.0 in
    let turns : c.in_ok-clone.field-0.turns.items ≡ c.self.inside.contents.turns.items = same_from_all_zip _ _ _ h.1.1.1.1.1.1.1.0.0 (λ x y e. search rules) in
    rw (h.0, h.1.0, h.1.1.0, processes, actors, handles, mirrors, turns, h.1.1.1.1.1.1.1.1) refl

pub invariant_of-result : goal.invariant_of-result
invariant_of-result c = subst IsScript (sym (same c)) c.self.invariant

pub returns-clause-equal : goal.returns-clause-equal
returns-clause-equal c = same c ∙ c.self.view_is
