use Rattle.std.proofs.Common.{◌≡◌, ℕ, Some, subst, ◌∙◌, arith}
use Rattle.std.proofs.lemmas.Grind.{common_steps}
use Rattle.gup_script.specs.Script.{Process, process_at}
use Rattle.gup_read_notes.proofs.Named.{next_process}
use Rattle.gup_read_notes.proofs.names.processes_of.Goals as goal

pub push-requires : goal.push-requires
push-requires c =
    let s = c.args.script.now in
    let w = c.process_name.result.now in
    let same : c.unwrap-proc.result ≡ c.loop-p.p = grind (arith, common_steps) in
    let named = subst (λ (n : ℕ). (x : Process) → process_at s n ≡ Some x → w ≡ x.name) same c.process_name.ensures in
    let next = next_process s c.requires.names c.loop-p.p (omega arith) c.loop-p.table w c.loop-p.invariant named in
    next.0

pub loop-p-preserved : goal.loop-p-preserved
loop-p-preserved c =
    let s = c.args.script.now in
    let w = c.process_name.result.now in
    let same : c.unwrap-proc.result ≡ c.loop-p.p = grind (arith, common_steps) in
    let named = subst (λ (n : ℕ). (x : Process) → process_at s n ≡ Some x → w ≡ x.name) same c.process_name.ensures in
    let next = next_process s c.requires.names c.loop-p.p (omega arith) c.loop-p.table w c.loop-p.invariant named in
    c.in_ok-push.ensures ∙ next.1
