use Rattle.std.proofs.Common.{◌≡◌, ℕ, ◌+◌, ◌-◌, ◌<◌, ◌≤◌, nat_lt, Bool, List, Option, Some, None, slice_get, length, sym, ap, subst, ◌∙◌, arith}
use Rattle.std.proofs.lemmas.Option.{slice_get_within}
use Rattle.std.proofs.lemmas.Bool.Decides.{nat_tests}
use Rattle.gup_plain.specs.Note.{NoteValue, JournalValue}
use Rattle.gup_script.specs.Script.{ScriptValue}
use Rattle.gup_script.specs.Valid.{IsScript}
use Rattle.gup_spec_journal.specs.Order.{behind}
use Rattle.gup_spec_turns.specs.Run.{RunState, run_start, run_after, pointed, IsCoreRun}
use Rattle.gup_core.specs.Machine.{MachineValue, Shows}
use Rattle.gup_core.specs.Going.{WritesTurn, Stays}
use Rattle.gup_sched.specs.Awake.{AwakeValue, is_awake, AreAsleep, AreAsleepAfter}
use Rattle.gup_sched.specs.Ran.{SaysStuck, FoundTakes}
use Rattle.gup_sched.proofs.Underway.{has_costs, IsWritten, written_first, written_turn, IsPointed, pointed_first, pointed_turn, pointed_end, few_turns, counts_turns, most}
use Rattle.gup_sched.proofs.run.run_machine.Goals as goal

-- the written turns

pub loop-k-init : goal.loop-k-init
loop-k-init c =
    let script = c.args.machine.script in
    let first = written_first script c.args.machine c.requires in
    (run_start script, subst (λ (ns : List NoteValue). IsWritten script c.args.machine ns 0 (run_start script)) (sym c.new-journal.ensures) first)

pub loop-k-preserved : goal.loop-k-preserved
loop-k-preserved c =
    let script = c.args.machine.script in
    let valid = subst IsScript c.script.ensures c.actors-actors.ensures.valid in
    let costs = has_costs script valid c.turns_are_spent.ensures.spent c.turns_are_spent.ensures.kept c.turns_are_spent.ensures.start c.costs_are_few.ensures c.reached_states_stand.ensures in
    let r : RunState = c.loop-k.invariant.0 in
    let w = c.loop-k.invariant.1 in
    let took = c.in_ok-write_kth.ensures.turn in
    let a = took.0 in
    let there : slice_get script.turns c.loop-k.k ≡ Some a = ap (λ (s : ScriptValue). slice_get s.turns c.loop-k.k) (sym w.underway.same) ∙ took.1 in
    let taken = took.2 r w.underway.shown in
    let after = written_turn script valid costs c.loop-k.machine c.write_kth.new.machine c.loop-k.journal.notes taken.0 c.loop-k.k r a there (slice_get_within script.turns c.loop-k.k a there) c.in_ok-write_kth.ensures.script taken.2 w in
    (run_after script r a, subst (λ (ns : List NoteValue). IsWritten script c.write_kth.new.machine ns (c.loop-k.k + 1) (run_after script r a)) (sym taken.1) after)

-- after them

-- all of them are over
all_over : (items turns : List ℕ) (k : ℕ) → items ≡ turns → length items ≤ k → k ≤ length items → k ≡ length turns
all_over items turns k same least most = let lengths = ap (λ (xs : List ℕ). length xs) same in omega (arith, lengths, least, most)

-- at first nobody is asleep
nobody_sleeps : (script : ScriptValue) (r : RunState) (n : ℕ) → AreAsleep script r n (λ k. nat_lt k n)
nobody_sleeps script r n k below sleeps = absurd (grind (arith, nat_tests))

awake_first : (script : ScriptValue) (r : RunState) (n : ℕ) (awake : AwakeValue) → is_awake awake ≡ (λ k. nat_lt k n) → AreAsleep script r n (is_awake awake)
awake_first script r n awake is = subst (λ (f : ℕ → Bool). AreAsleep script r n f) (sym is) (nobody_sleeps script r n)

pub loop-journal-init : goal.loop-journal-init
loop-journal-init c =
    let script = c.args.machine.script in
    let m = c.loop-k.machine in
    let notes = c.loop-k.journal.notes in
    let r : RunState = c.loop-k.invariant.0 in
    let over = all_over c.turns-written.result.now script.turns c.loop-k.k (c.turns-written.ensures ∙ ap (λ (s : ScriptValue). s.turns) c.script-2.ensures) c.loop-k-test.false c.loop-k.auto.k-end in
    let first = pointed_first script m notes r (subst (λ (k : ℕ). IsWritten script m notes k r) over c.loop-k.invariant.1) in
    let zero = c.actor_no-pointer.ensures in (
      λ some. omega (arith, some, zero),
      c.all-awake.ensures.actors,
      (r, subst (λ (k : ℕ). IsPointed script m notes k r) (sym zero) first, awake_first script r c.actors-actors.result c.all-awake.result c.all-awake.ensures.awake),
    )

-- whom the pointer gives the turn
is_pointed : (script other : ScriptValue) (r : RunState) (actors n from : ℕ) (found o : Option ℕ) → other ≡ script → actors ≡ n → n ≡ length script.actors → found ≡ pointed other r actors from → found ≡ o → pointed script r (length script.actors) from ≡ o
is_pointed script other r actors n from found o same are all is was =
    sym (ap (λ (k : ℕ). pointed script r k from) (are ∙ all)) ∙ sym (ap (λ (s : ScriptValue). pointed s r actors from) same) ∙ sym is ∙ was

fewer : (most before after : ℕ) → before < after → after ≤ most → most - after < most - before
fewer most before after less within = omega arith

-- of the machine's own script
of_own : (script other : ScriptValue) (r : RunState) (n k : ℕ) (awake : ℕ → Bool) → other ≡ script → n ≡ k → AreAsleep script r k awake → AreAsleep other r n awake
of_own script other r n k awake same are h = subst (λ (j : ℕ). AreAsleep other r j awake) (sym are) (subst (λ (s : ScriptValue). AreAsleep s r k awake) (sym same) h)

asleep_then : (script other : ScriptValue) (r : RunState) (n k a : ℕ) (awake : ℕ → Bool) (found : Option ℕ) → other ≡ script → n ≡ k → found ≡ Some a → AreAsleepAfter other r n awake found → AreAsleep script (run_after script r a) k awake
asleep_then script other r n k a awake found same are is h =
    subst (λ (j : ℕ). AreAsleep script (run_after script r a) j awake) are
    (subst (λ (s : ScriptValue). AreAsleep s (run_after s r a) n awake) same
    (subst (λ (o : Option ℕ). AreAsleepAfter other r n awake o) is h))

pub loop-journal-preserved : goal.loop-journal-preserved
loop-journal-preserved c =
    let script = c.args.machine.script in
    let valid = subst IsScript c.script.ensures c.actors-actors.ensures.valid in
    let costs = has_costs script valid c.turns_are_spent.ensures.spent c.turns_are_spent.ensures.kept c.turns_are_spent.ensures.start c.costs_are_few.ensures c.reached_states_stand.ensures in
    let n = c.actors-actors.result in
    let are = c.loop-journal.invariant.1 in
    let r : RunState = c.loop-journal.invariant.2.0 in
    let h = c.loop-journal.invariant.2.1 in
    let asleep = of_own script c.loop-journal.machine.script r c.loop-journal.awake.actors n (is_awake c.loop-journal.awake) h.underway.same are c.loop-journal.invariant.2.2 in
    let a = c.in-Some.actor in
    let m = c.next_to_go.new.machine in
    let found = is_pointed script c.loop-journal.machine.script r c.loop-journal.awake.actors n c.loop-journal.pointer c.in_ok-actor.field-0 (Some a) h.underway.same are (c.actors-actors.ensures.count ∙ ap (λ (s : ScriptValue). length s.actors) c.script.ensures) (c.in_ok-actor.ensures.next r h.underway.shown asleep) c.in-Some.is in
    let writes : WritesTurn c.loop-journal.machine m c.loop-journal.journal c.next_to_go.new.journal a =
    subst (λ (o : Option ℕ). FoundTakes c.loop-journal.machine m c.loop-journal.journal c.next_to_go.new.journal o) c.in-Some.is c.in_ok-actor.ensures.turn in
    let taken = writes r h.underway.shown in
    let after = pointed_turn script costs c.loop-journal.machine m c.loop-journal.journal.notes taken.0 c.loop-journal.pointer r a found c.in_ok-actor.ensures.script taken.2 h in
    let notes = subst (λ (ns : List NoteValue). IsPointed script m ns (behind (length script.actors) a) (run_after script r a)) (sym taken.1) after.0 in
    let next : behind (length script.actors) a ≡ c.behind-pointer.result = ap (λ (k : ℕ). behind k a) (sym (c.actors-actors.ensures.count ∙ ap (λ (s : ScriptValue). length s.actors) c.script.ensures)) ∙ sym c.behind-pointer.ensures.next in (
      λ some. c.behind-pointer.ensures.below,
      c.in_ok-actor.ensures.actors ∙ are,
      (
        run_after script r a,
        subst (λ (k : ℕ). IsPointed script m c.next_to_go.new.journal.notes k (run_after script r a)) next notes,
        asleep_then script c.loop-journal.machine.script r c.loop-journal.awake.actors n a (is_awake c.next_to_go.new.awake) c.in_ok-actor.field-0 h.underway.same are c.in-Some.is (c.in_ok-actor.ensures.asleep r h.underway.shown asleep),
      ),
    )

pub loop-journal-smaller : goal.loop-journal-smaller
loop-journal-smaller c =
    let script = c.args.machine.script in
    let valid = subst IsScript c.script.ensures c.actors-actors.ensures.valid in
    let costs = has_costs script valid c.turns_are_spent.ensures.spent c.turns_are_spent.ensures.kept c.turns_are_spent.ensures.start c.costs_are_few.ensures c.reached_states_stand.ensures in
    let n = c.actors-actors.result in
    let are = c.loop-journal.invariant.1 in
    let r : RunState = c.loop-journal.invariant.2.0 in
    let h = c.loop-journal.invariant.2.1 in
    let asleep = of_own script c.loop-journal.machine.script r c.loop-journal.awake.actors n (is_awake c.loop-journal.awake) h.underway.same are c.loop-journal.invariant.2.2 in
    let a = c.in-Some.actor in
    let m = c.next_to_go.new.machine in
    let found = is_pointed script c.loop-journal.machine.script r c.loop-journal.awake.actors n c.loop-journal.pointer c.in_ok-actor.field-0 (Some a) h.underway.same are (c.actors-actors.ensures.count ∙ ap (λ (s : ScriptValue). length s.actors) c.script.ensures) (c.in_ok-actor.ensures.next r h.underway.shown asleep) c.in-Some.is in
    let writes : WritesTurn c.loop-journal.machine m c.loop-journal.journal c.next_to_go.new.journal a =
    subst (λ (o : Option ℕ). FoundTakes c.loop-journal.machine m c.loop-journal.journal c.next_to_go.new.journal o) c.in-Some.is c.in_ok-actor.ensures.turn in
    let taken = writes r h.underway.shown in
    let after = pointed_turn script costs c.loop-journal.machine m c.loop-journal.journal.notes taken.0 c.loop-journal.pointer r a found c.in_ok-actor.ensures.script taken.2 h in
    fewer (most script) c.loop-journal.machine.turns m.turns after.1 after.2

-- the end

stuck_at : (stuck : Bool) (m script : ScriptValue) (r : RunState) → m ≡ script → SaysStuck stuck m r → SaysStuck stuck script r
stuck_at stuck m script r same says = subst (λ (s : ScriptValue). SaysStuck stuck s r) same says

-- nothing has changed since the last turn
no_more : (m n : MachineValue) (j k : JournalValue) (found : Option ℕ) → found ≡ None → FoundTakes m n j k found → Stays m n j k
no_more m n j k found none h = subst (λ (o : Option ℕ). FoundTakes m n j k o) none h

pub returns-clause-script : goal.returns-clause-script
returns-clause-script c =
    let stays = no_more c.loop-journal.machine c.next_to_go.new.machine c.loop-journal.journal c.next_to_go.new.journal c.in_ok-actor.field-0 c.in_default.is c.in_ok-actor.ensures.turn in
    ap (λ (m : MachineValue). m.script) stays.machine ∙ c.loop-journal.invariant.2.1.underway.same

pub returns-clause-core : goal.returns-clause-core
returns-clause-core c =
    let script = c.args.machine.script in
    let m = c.loop-journal.machine in
    let o = c.next_to_go.new.machine in
    let n = c.actors-actors.result in
    let are = c.loop-journal.invariant.1 in
    let r : RunState = c.loop-journal.invariant.2.0 in
    let h = c.loop-journal.invariant.2.1 in
    let asleep = of_own script m.script r c.loop-journal.awake.actors n (is_awake c.loop-journal.awake) h.underway.same are c.loop-journal.invariant.2.2 in
    let costs = has_costs script (subst IsScript c.script.ensures c.actors-actors.ensures.valid) c.turns_are_spent.ensures.spent c.turns_are_spent.ensures.kept c.turns_are_spent.ensures.start c.costs_are_few.ensures c.reached_states_stand.ensures in
    let turns = few_turns script m c.loop-journal.journal.notes c.loop-journal.pointer r costs h in
    let counts = counts_turns script m c.loop-journal.journal.notes c.loop-journal.pointer r costs h in
    let none = is_pointed script m.script r c.loop-journal.awake.actors n c.loop-journal.pointer c.in_ok-actor.field-0 None h.underway.same are (c.actors-actors.ensures.count ∙ ap (λ (s : ScriptValue). length s.actors) c.script.ensures) (c.in_ok-actor.ensures.next r h.underway.shown asleep) c.in_default.is in
    let stays = no_more m o c.loop-journal.journal c.next_to_go.new.journal c.in_ok-actor.field-0 c.in_default.is c.in_ok-actor.ensures.turn in
    let shown : Shows o r = subst (λ (x : MachineValue). Shows x r) (sym stays.machine) h.underway.shown in
    let same : o.script ≡ script = ap (λ (x : MachineValue). x.script) stays.machine ∙ h.underway.same in
    (r, subst (λ (ns : List NoteValue). IsCoreRun script ns r) (sym stays.notes) (pointed_end script m c.loop-journal.journal.notes c.loop-journal.pointer r none h), shown, stuck_at c.is_stuck.result o.script script r same (c.is_stuck.ensures r shown), turns, ap (λ (x : MachineValue). x.turns) stays.machine ∙ counts)
