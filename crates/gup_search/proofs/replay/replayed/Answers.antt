use Rattle.std.proofs.Common.{◌≡◌, ℕ, List, ◌++◌, sym, subst, ◌∙◌}
use Rattle.gup_script.specs.Script.{ScriptValue}
use Rattle.gup_spec_turns.specs.Run.{RunState, run_start, turned}
use Rattle.gup_core.specs.Machine.{MachineValue, Shows, IsNew}
use Rattle.gup_spec_orders.specs.Orders.{setup}
use Rattle.gup_search.proofs.Turns.{turned-append}
use Rattle.gup_search.proofs.replay.replayed.Goals as goal

-- first these turns and then those
two_parts : (script : ScriptValue) (m n o : MachineValue) (xs ys zs : List ℕ) → IsNew script m → n.script ≡ m.script → ((r : RunState) → Shows m r → Shows n (turned m.script r xs)) → ((r : RunState) → Shows n r → Shows o (turned n.script r ys)) → xs ≡ zs → Shows o (turned script (run_start script) (zs ++ ys))
two_parts script m n o xs ys zs new kept one two is =
    let first : Shows n (turned script (run_start script) xs) = subst (λ (s : ScriptValue). Shows n (turned s (run_start script) xs)) new.script (one (run_start script) new.shown) in
    let both : Shows o (turned script (turned script (run_start script) xs) ys) =
    subst (λ (s : ScriptValue). Shows o (turned s (turned script (run_start script) xs) ys)) (kept ∙ new.script) (two (turned script (run_start script) xs) first) in
    subst (λ (ws : List ℕ). Shows o (turned script (run_start script) (ws ++ ys))) is
    (subst (λ (r : RunState). Shows o r) (sym (turned-append script (run_start script) xs ys)) both)

pub returns-clause-shows : goal.returns-clause-shows
returns-clause-shows c =
    two_parts c.args.script.now c.in_ok-machine.machine c.take_turns.new.machine c.take_turns-2.new.machine c.setup.result.now c.args.path.now (setup c.args.script.now c.args.behind) c.in_ok-machine.ensures c.take_turns.ensures.script c.take_turns.ensures.shows c.take_turns-2.ensures.shows c.setup.ensures.turns
