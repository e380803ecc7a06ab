use Rattle.std.proofs.Common.{◌≡◌, ℕ, Some, List, subst, ◌∙◌, arith}
use Rattle.std.proofs.lemmas.Grind.{common_steps}
use Rattle.gup_script.specs.Script.{handle_at}
use Rattle.gup_read_notes.proofs.Named.{next_text, handles_apart}
use Rattle.gup_read_notes.proofs.names.handles_of.Goals as goal

pub push-requires : goal.push-requires
push-requires c =
    let s = c.args.script.now in
    let w = c.handle_name.result.now in
    let same : c.unwrap-handle.result ≡ c.loop-h.h = grind (arith, common_steps) in
    let named = subst (λ (n : ℕ). (x : List ℕ) → handle_at s n ≡ Some x → w ≡ x) same c.handle_name.ensures in
    let next = next_text s.handles (handles_apart s c.requires) c.loop-h.h (omega arith) c.loop-h.table w c.loop-h.invariant named in
    next.0

pub loop-h-preserved : goal.loop-h-preserved
loop-h-preserved c =
    let s = c.args.script.now in
    let w = c.handle_name.result.now in
    let same : c.unwrap-handle.result ≡ c.loop-h.h = grind (arith, common_steps) in
    let named = subst (λ (n : ℕ). (x : List ℕ) → handle_at s n ≡ Some x → w ≡ x) same c.handle_name.ensures in
    let next = next_text s.handles (handles_apart s c.requires) c.loop-h.h (omega arith) c.loop-h.table w c.loop-h.invariant named in
    c.in_ok-push.ensures ∙ next.1
