-- Orders as written turns: the run of a script with an order as its written turns takes these turns and no others.
use Rattle.std.proofs.Common.{◌≡◌, ℕ, ◌+◌, ◌<◌, ◌≤◌, All, Bool, true, false, List, [], ◌∷◌, ◌++◌, length, slice_get, Option, Some, None, refl, sym, ap, ◌∙◌, subst, zero, suc, arith}
use Rattle.std.proofs.lemmas.List.Elements.{All-nil, All-cons, All-append}
use Rattle.gup_script.specs.declared.op.Op.{Op}
use Rattle.gup_script.specs.Limits.{most_turns}
use Rattle.gup_script.specs.Script.{ScriptValue}
use Rattle.gup_script.specs.Valid.{IsScript}
use Rattle.gup_spec_journal.specs.Order.{pointer_after}
use Rattle.gup_spec_turns.specs.Run.{RunState, Runs, run_start, turned, run_after, op_in, waiting_in, is_ready, can_go, pointed, next_by}
use Rattle.gup_spec_orders.specs.Orders.{Goes, IsOver, IsOrder, setup, beginning, turns_in}
use Rattle.gup_spec_orders.specs.Printed.{with_turns}
use Rattle.gup_law_turns.proofs.ScriptLemmas.{has_ops_declared}

-- turns of some actors and then of others
turned_append : (script : ScriptValue) (r : RunState) (actors others : List ℕ) → turned script r (actors ++ others) ≡ turned script (turned script r actors) others
turned_append script r [] others = refl
turned_append script r (a ∷ actors) others = turned_append script (run_after script r a) actors others

-- behind an order nobody can go
pub over_behind : (script : ScriptValue) (behind : Bool) (order : List ℕ) → IsOrder script behind order → IsOver script (turned script (run_start script) (setup script behind ++ order))
over_behind script behind order is =
    subst (IsOver script) (sym (turned_append script (run_start script) (setup script behind) order)) is.over

-- where no actor of the script can go, nobody can

none_goes : (script : ScriptValue) (r : RunState) → IsOver script r → (a : ℕ) (op : Option Op) → op_in script r a ≡ op → can_go script r a ≡ false
none_goes script r over a None is = ap (λ (o : Option Op). is_ready o (waiting_in script r a)) is
none_goes script r over a (Some op) is = over a (has_ops_declared script a (r.places a).answered op is)

none_pointed : (script : ScriptValue) (r : RunState) → ((a : ℕ) → can_go script r a ≡ false) → (n from : ℕ) → pointed script r n from ≡ None
none_pointed script r none zero from = refl
none_pointed script r none (suc n) from = rw (none from) (none_pointed script r none n _)

-- the state with the pointer at this actor, after so many turns
abbrev pub placed : RunState → (pointer turns : ℕ) → RunState
placed r pointer turns = record { core = r.core; places = r.places; pointer = pointer; turns = turns }

-- Where what is left of the written turns is an order that is over behind its last turn, the run takes its turns and is at its end.
pub run_in_order : (script : ScriptValue) (all order : List ℕ) (r : RunState) (pointer turns : ℕ) → ((k : ℕ) → slice_get all (turns + k) ≡ slice_get order k) → IsOver script (turned script r order) → (last over : ℕ) × Runs (with_turns all script) (placed r pointer turns) (turns_in script r order) (placed (turned script r order) last over)
run_in_order script all [] r pointer turns left over =
    let first : turns ≡ turns + 0 = omega arith in
    let written : slice_get all turns ≡ None = ap (slice_get all) first ∙ left 0 in
    let none : (a : ℕ) → can_go script r a ≡ false = λ a. none_goes script r over a (op_in script r a) refl in
    (pointer, turns, (ap (next_by (with_turns all script) (placed r pointer turns)) written ∙ none_pointed (with_turns all script) (placed r pointer turns) none (length script.actors) pointer, refl))
run_in_order script all (a ∷ order) r pointer turns left over =
    let first : turns ≡ turns + 0 = omega arith in
    let written : slice_get all turns ≡ Some a = ap (slice_get all) first ∙ left 0 in
    let next : (k : ℕ) → turns + 1 + k ≡ turns + suc k = λ k. omega arith in
    let further : (k : ℕ) → slice_get all (turns + 1 + k) ≡ slice_get order k = λ k. ap (slice_get all) (next k) ∙ left (suc k) in
    let later = run_in_order script all order (run_after script r a) (pointer_after (length script.actors) pointer (slice_get all turns) a) (turns + 1) further over in
    (later.0, later.1, (ap (next_by (with_turns all script) (placed r pointer turns)) written, refl, later.2))

-- who takes a turn in an order is an actor of the script

goes_below : (script : ScriptValue) (r : RunState) (order : List ℕ) → Goes script r order → All (λ (a : ℕ). a < length script.actors) order
goes_below script r [] goes = All-nil (λ (a : ℕ). a < length script.actors)
goes_below script r (a ∷ order) goes =
    All-cons (λ (b : ℕ). b < length script.actors) a order goes.0 (goes_below script (run_after script r a) order goes.2)

setup_below : (script : ScriptValue) → IsScript script → (behind : Bool) → All (λ (a : ℕ). a < length script.actors) (setup script behind)
setup_below script valid false = All-nil (λ (a : ℕ). a < length script.actors)
setup_below script valid true = valid.turns

-- so where they aren't too many they may be written
pub script_in_order : (script : ScriptValue) (behind : Bool) (order : List ℕ) → IsScript script → IsOrder script behind order → length (setup script behind ++ order) ≤ most_turns → IsScript (with_turns (setup script behind ++ order) script)
script_in_order script behind order valid is few =
    record {
      few_frames = valid.few_frames;
      few_tables = valid.few_tables;
      few_processes = valid.few_processes;
      few_actors = valid.few_actors;
      few_handles = valid.few_handles;
      few_mirrors = valid.few_mirrors;
      kinds = valid.kinds;
      ops = valid.ops;
      ops_fit = valid.ops_fit;
      declared = valid.declared;
      forks_once = valid.forks_once;
      handles_once = valid.handles_once;
      few_ops = valid.few_ops;
      turns = All-append (λ (a : ℕ). a < length script.actors) (setup script behind) order (setup_below script valid behind) (goes_below script (beginning script behind) order is.goes);
      few_turns = few;
    }
