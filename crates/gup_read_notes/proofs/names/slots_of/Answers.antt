use Rattle.std.proofs.Common.{◌≡◌, ℕ, Some, List, subst, ◌∙◌, arith}
use Rattle.std.proofs.lemmas.Grind.{common_steps}
use Rattle.gup_script.specs.Script.{mirror_at}
use Rattle.gup_read_notes.proofs.Named.{next_text, slots_apart}
use Rattle.gup_read_notes.proofs.names.slots_of.Goals as goal

pub push-requires : goal.push-requires
push-requires c =
    let s = c.args.script.now in
    let w = c.mirror_name.result.now in
    let same : c.unwrap-slot.result ≡ c.loop-m.m = grind (arith, common_steps) in
    let named = subst (λ (n : ℕ). (x : List ℕ) → mirror_at s n ≡ Some x → w ≡ x) same c.mirror_name.ensures in
    let next = next_text s.mirrors (slots_apart s c.requires) c.loop-m.m (omega arith) c.loop-m.table w c.loop-m.invariant named in
    next.0

pub loop-m-preserved : goal.loop-m-preserved
loop-m-preserved c =
    let s = c.args.script.now in
    let w = c.mirror_name.result.now in
    let same : c.unwrap-slot.result ≡ c.loop-m.m = grind (arith, common_steps) in
    let named = subst (λ (n : ℕ). (x : List ℕ) → mirror_at s n ≡ Some x → w ≡ x) same c.mirror_name.ensures in
    let next = next_text s.mirrors (slots_apart s c.requires) c.loop-m.m (omega arith) c.loop-m.table w c.loop-m.invariant named in
    c.in_ok-push.ensures ∙ next.1
