-- The loops over the turns: what is true between two of them.
use Rattle.std.proofs.Common.{◌≡◌, ℕ, ◌+◌, ◌-◌, ◌*◌, ◌^◌, ◌<◌, ◌≤◌, Bool, true, false, List, [], ◌∷◌, ◌++◌, Option, Some, None, slice_get, length, refl, sym, ap, subst, ◌∙◌, arith, append_assoc, append-nil}
use Rattle.std.proofs.lemmas.Bool.Decides.{nat_tests}
use Rattle.std.specs.Prelude.{min}
use Rattle.std.proofs.lemmas.Option.{slice_get_past}
use Rattle.gup_plain.specs.Note.{NoteValue}
use Rattle.gup_script.specs.Script.{ScriptValue}
use Rattle.gup_script.specs.Valid.{IsScript}
use Rattle.gup_spec_journal.specs.Follows.{notes_of_turn}
use Rattle.gup_spec_journal.specs.Order.{Turn, journal_of, behind, pointer_after}
use Rattle.gup_spec_turns.specs.Cost.{cost, operations, forks}
use Rattle.gup_spec_turns.specs.Run.{turned, RunState, run_start, run_after, turn_in, core_turn_in, can_go, pointed, written_in, next_by, next_actor, Runs, IsCoreRun}
use Rattle.gup_law_turns.specs.Standing.{IsStanding}
use Rattle.gup_core.specs.Machine.{MachineValue, Shows, TakesTurn, IsNew, counted}
use Rattle.gup_sched.proofs.NextActors.{pointed_goes}

-- The machine shows a state that turns led to from the start, and has counted them, and whatever run goes on from there is, after the notes
-- so far, the script's.
pub record Underway (script : ScriptValue) (m : MachineValue) (notes : List NoteValue) (r : RunState) : Type 0 where
  pub same : m.script ≡ script
  pub shown : Shows m r
  pub counts : m.turns ≡ min r.turns (2 ^ 32 - 1)
  pub actors : List ℕ
  pub reached : turned script (run_start script) actors ≡ r
  pub goes_on : (ts : List Turn) (end : RunState) → Runs script r ts end → IsCoreRun script (notes ++ journal_of (r.turns + 1) r.places ts) end

pub underway_first : (script : ScriptValue) (m : MachineValue) → IsNew script m → Underway script m [] (run_start script)
underway_first script m new =
    record {
      same = new.script;
      shown = new.shown;
      counts = new.turns;
      actors = [];
      reached = refl;
      goes_on = λ ts end runs. (ts, refl, runs);
    }

-- the number of the next turn
counted_next : (m t : ℕ) → m ≡ min t (2 ^ 32 - 1) → counted m ≡ min (t + 1) (2 ^ 32 - 1)
counted_next m t is = grind (arith, nat_tests)

turned_on : (script : ScriptValue) (r : RunState) (actors : List ℕ) (a : ℕ) → turned script r (actors ++ a ∷ []) ≡ run_after script (turned script r actors) a
turned_on script r [] a = refl
turned_on script r (b ∷ actors) a = turned_on script (run_after script r b) actors a

pub underway_turn : (script : ScriptValue) (m n : MachineValue) (notes told : List NoteValue) (r : RunState) (a : ℕ) → next_actor script r ≡ Some a → r.turns < 2 ^ 32 - 1 → n.script ≡ m.script → TakesTurn m n a r told → Underway script m notes r → Underway script n (notes ++ told) (run_after script r a)
underway_turn script m n notes told r a next few kept taken u =
    let number : counted m.turns ≡ r.turns + 1 = let counts = u.counts in grind (arith, nat_tests) in
    let said : told ≡ notes_of_turn (r.turns + 1) a ((r.places a).answered + 1) (core_turn_in script r a).whats =
    taken.said
    ∙ ap (λ (k : ℕ). notes_of_turn k a ((r.places a).answered + 1) (core_turn_in m.script r a).whats) number
    ∙ ap (λ (s : ScriptValue). notes_of_turn (r.turns + 1) a ((r.places a).answered + 1) (core_turn_in s r a).whats) u.same in
    record {
      same = kept ∙ u.same;
      shown = subst (λ (s : ScriptValue). Shows n (run_after s r a)) u.same taken.shown;
      counts = taken.counts ∙ counted_next m.turns r.turns u.counts;
      actors = u.actors ++ a ∷ [];
      reached = turned_on script (run_start script) u.actors a ∙ ap (λ (s : RunState). run_after script s a) u.reached;
      goes_on =
          λ ts end runs.
          let later : List NoteValue = journal_of (r.turns + 1 + 1) (run_after script r a).places ts in
          let whole = u.goes_on (turn_in script r a ∷ ts) end (next, refl, runs) in
          let joined : notes ++ journal_of (r.turns + 1) r.places (turn_in script r a ∷ ts) ≡ (notes ++ told) ++ later =
          ap (λ (t : List NoteValue). notes ++ (t ++ later)) (sym said) ∙ sym (append_assoc notes told later) in
          subst (λ (ns : List NoteValue). IsCoreRun script ns end) joined whole;
    }

pub underway_end : (script : ScriptValue) (m : MachineValue) (notes : List NoteValue) (r : RunState) → next_actor script r ≡ None → Underway script m notes r → IsCoreRun script notes r
underway_end script m notes r stop u = subst (λ (ns : List NoteValue). IsCoreRun script ns r) (append-nil notes) (u.goes_on [] r (stop, refl))

-- the most turns of a run
abbrev pub most : ScriptValue → ℕ
most script = length script.turns + cost script (run_start script)

-- what the laws of the core run say of the cost
pub record HasCosts (script : ScriptValue) : Type 0 where
  pub spent : (r : RunState) (a : ℕ) → IsStanding script r → can_go script r a ≡ true → cost script (run_after script r a) < cost script r
  pub kept : (r : RunState) (a : ℕ) → can_go script r a ≡ false → cost script (run_after script r a) ≡ cost script r
  pub start : cost script (run_start script) ≤ 1025 * operations script + 527361 * forks script
  pub few : most script < 2 ^ 32 - 1
  pub stand : (actors : List ℕ) → IsStanding script (turned script (run_start script) actors)

pub has_costs : (script : ScriptValue) → IsScript script
    → ((s : ScriptValue) (r : RunState) (a : ℕ) → IsScript s → IsStanding s r → can_go s r a ≡ true → cost s (run_after s r a) < cost s r)
    → ((s : ScriptValue) (r : RunState) (a : ℕ) → can_go s r a ≡ false → cost s (run_after s r a) ≡ cost s r)
    → ((s : ScriptValue) → IsScript s → cost s (run_start s) ≤ 1025 * operations s + 527361 * forks s)
    → ((s : ScriptValue) → IsScript s → most s < 2 ^ 32 - 1)
    → ((s : ScriptValue) (actors : List ℕ) → IsScript s → IsStanding s (turned s (run_start s) actors))
    → HasCosts script
has_costs script valid spent kept start few stand =
    record {
      spent = λ r a stands goes. spent script r a valid stands goes;
      kept = kept script;
      start = start script valid;
      few = few script valid;
      stand = λ actors. stand script actors valid;
    }

pub standing : (script : ScriptValue) (m : MachineValue) (notes : List NoteValue) (r : RunState) → HasCosts script → Underway script m notes r → IsStanding script r
standing script m notes r costs u = subst (λ (s : RunState). IsStanding script s) u.reached (costs.stand u.actors)

-- a turn costs nothing or more
not_more : (script : ScriptValue) (r : RunState) (a : ℕ) → HasCosts script → IsStanding script r → cost script (run_after script r a) ≤ cost script r
not_more script r a costs stands = go (can_go script r a) refl
  where
    go : (c : Bool) → can_go script r a ≡ c → cost script (run_after script r a) ≤ cost script r
    go true goes = let less = costs.spent r a stands goes in omega (arith, less)
    go false stays = let same = costs.kept r a stays in omega (arith, same)

-- among the written turns

pub record IsWritten (script : ScriptValue) (m : MachineValue) (notes : List NoteValue) (taken : ℕ) (r : RunState) : Type 0 where
  pub underway : Underway script m notes r
  pub turns : r.turns ≡ taken
  pub pointer : r.pointer ≡ 0
  pub cheap : cost script r ≤ cost script (run_start script)

pub written_first : (script : ScriptValue) (m : MachineValue) → IsNew script m → IsWritten script m [] 0 (run_start script)
written_first script m new = record { underway = underway_first script m new; turns = refl; pointer = refl; cheap = omega arith }

pub written_turn : (script : ScriptValue) → IsScript script → HasCosts script → (m n : MachineValue) (notes told : List NoteValue) (taken : ℕ) (r : RunState) (a : ℕ) → slice_get script.turns taken ≡ Some a → taken < length script.turns → n.script ≡ m.script → TakesTurn m n a r told → IsWritten script m notes taken r → IsWritten script n (notes ++ told) (taken + 1) (run_after script r a)
written_turn script valid costs m n notes told taken r a is there kept takes w =
    let written : written_in script r ≡ Some a = ap (slice_get script.turns) w.turns ∙ is in
    let next : next_actor script r ≡ Some a = ap (next_by script r) written in
    let most = valid.few_turns in
    let few : r.turns < 2 ^ 32 - 1 = let same = w.turns in omega arith in
    let turns : r.turns + 1 ≡ taken + 1 = let same = w.turns in omega arith in
    let less = not_more script r a costs (standing script m notes r costs w.underway) in
    let cheap = w.cheap in
    record {
      underway = underway_turn script m n notes told r a next few kept takes w.underway;
      turns = turns;
      pointer = ap (λ (o : Option ℕ). pointer_after (length script.actors) r.pointer o a) written ∙ w.pointer;
      cheap = omega (arith, less, cheap);
    }

-- after them

pub record IsPointed (script : ScriptValue) (m : MachineValue) (notes : List NoteValue) (from : ℕ) (r : RunState) : Type 0 where
  pub underway : Underway script m notes r
  pub pointer : r.pointer ≡ from
  pub written : length script.turns ≤ r.turns
  pub cheap : r.turns + cost script r ≤ most script

pub pointed_first : (script : ScriptValue) (m : MachineValue) (notes : List NoteValue) (r : RunState) → IsWritten script m notes (length script.turns) r → IsPointed script m notes 0 r
pointed_first script m notes r w =
    let turns = w.turns in
    let cheap = w.cheap in
    record { underway = w.underway; pointer = w.pointer; written = omega (arith, turns); cheap = omega (arith, turns, cheap) }

pub pointed_turn : (script : ScriptValue) → HasCosts script → (m n : MachineValue) (notes told : List NoteValue) (pointer : ℕ) (r : RunState) (a : ℕ) → pointed script r (length script.actors) pointer ≡ Some a → n.script ≡ m.script → TakesTurn m n a r told → IsPointed script m notes pointer r → IsPointed script n (notes ++ told) (behind (length script.actors) a) (run_after script r a) × (m.turns < n.turns) × (n.turns ≤ most script)
pointed_turn script costs m n notes told pointer r a is kept takes h =
    let written : written_in script r ≡ None = slice_get_past script.turns r.turns h.written in
    let found : pointed script r (length script.actors) r.pointer ≡ Some a = ap (λ (k : ℕ). pointed script r (length script.actors) k) h.pointer ∙ is in
    let next : next_actor script r ≡ Some a = ap (next_by script r) written ∙ found in
    let goes = pointed_goes script r (length script.actors) r.pointer a found in
    let less = costs.spent r a (standing script m notes r costs h.underway) goes in
    let cheap = h.cheap in
    let far = h.written in
    let bound = costs.few in
    let few : r.turns < 2 ^ 32 - 1 = omega (arith, cheap, bound) in
    let before : m.turns ≡ r.turns = let counts = h.underway.counts in grind (arith, nat_tests) in
    let after : n.turns ≡ r.turns + 1 = let counts = h.underway.counts in let one = takes.counts in grind (arith, nat_tests) in (
      record {
        underway = underway_turn script m n notes told r a next few kept takes h.underway;
        pointer = ap (λ (o : Option ℕ). pointer_after (length script.actors) r.pointer o a) written;
        written = omega (arith, far);
        cheap = omega (arith, cheap, less);
      },
      omega (arith, before, after),
      omega (arith, after, cheap, less),
    )

pub pointed_end : (script : ScriptValue) (m : MachineValue) (notes : List NoteValue) (pointer : ℕ) (r : RunState) → pointed script r (length script.actors) pointer ≡ None → IsPointed script m notes pointer r → IsCoreRun script notes r
pointed_end script m notes pointer r none h =
    let written : written_in script r ≡ None = slice_get_past script.turns r.turns h.written in
    let found : pointed script r (length script.actors) r.pointer ≡ None = ap (λ (k : ℕ). pointed script r (length script.actors) k) h.pointer ∙ none in
    underway_end script m notes r (ap (next_by script r) written ∙ found) h.underway

-- and the turns are few
pub few_turns : (script : ScriptValue) (m : MachineValue) (notes : List NoteValue) (from : ℕ) (r : RunState) → HasCosts script → IsPointed script m notes from r → r.turns ≤ length script.turns + (1025 * operations script + 527361 * forks script)
few_turns script m notes from r costs h =
    let cheap = h.cheap in
    let start = costs.start in
    omega (arith, cheap, start)

-- and the machine has counted each of them
pub counts_turns : (script : ScriptValue) (m : MachineValue) (notes : List NoteValue) (from : ℕ) (r : RunState) → HasCosts script → IsPointed script m notes from r → m.turns ≡ r.turns
counts_turns script m notes from r costs h =
    let counts = h.underway.counts in
    let cheap = h.cheap in
    let few = costs.few in
    grind (arith, nat_tests)
