use Rattle.std.proofs.Common.{◌≡◌, ℕ, ◌<◌, ◌++◌, Bool, List, Some, None, sym, ap, ◌∙◌, subst, arith}
use Rattle.gup_plain.specs.Note.{NoteValue}
use Rattle.gup_core.specs.Machine.{MachineValue, Shows, TakesTurn}
use Rattle.gup_script.specs.Valid.{IsScript}
use Rattle.gup_core.specs.Waking.{woken_of}
use Rattle.gup_core.specs.Going.{Advances, CanGo, WaitsFor, HasFinished, MayWakeOf}
use Rattle.gup_sched.specs.Awake.{is_awake, awake_from, AreAsleep, awake_behind}
use Rattle.gup_sched.proofs.NextActors.{still_stays}
use Rattle.gup_sched.proofs.Asking.{waits_so, finished_so, falls_asleep, count_awake, count_falls, asked_goes, asked_none, asleep_behind}
use Rattle.gup_sched.proofs.AwakeTurns.{law_here}
use Rattle.gup_sched.proofs.order.next_to_go.Goals as goal

pub returns-in-Moved-clause-next : goal.returns-in-Moved-clause-next
returns-in-Moved-clause-next c r shown asleep =
    let m = c.args.machine.now in
    let n = c.args.awake.now.actors in
    let a = c.in-Some.actor in
    let l = c.loop-actor in
    let inv = l.invariant in
    let adv = subst (λ x. Advances l.machine c.advance.new.self l.journal c.advance.new.journal a x) c.in-Moved.is c.in_ok-woken.ensures.advances in
    let goes = (subst (λ (x : MachineValue). CanGo x a) inv.2.machine adv.0) r shown in
    let found = subst (λ (k : ℕ). awake_from (is_awake l.awake) k k c.args.pointer ≡ Some a) inv.0 (sym c.in-Some.ensures.next) in
    let below = subst (λ (k : ℕ). a < k) inv.0 c.in-Some.ensures.below in
    asked_goes m.script r n c.args.pointer a (is_awake l.awake) c.requires.all (inv.1 r shown asleep) (c.requires.there (omega (arith, below))) found goes

pub returns-in-Moved-clause-turn : goal.returns-in-Moved-clause-turn
returns-in-Moved-clause-turn c r shown =
    let a = c.in-Some.actor in
    let l = c.loop-actor in
    let stays = l.invariant.2 in
    let adv = subst (λ x. Advances l.machine c.advance.new.self l.journal c.advance.new.journal a x) c.in-Moved.is c.in_ok-woken.ensures.advances in
    let took = adv.1 r (subst (λ (m : MachineValue). Shows m r) (sym stays.machine) shown) in (
      took.0,
      took.1 ∙ ap (λ (notes : List NoteValue). notes ++ took.0) stays.notes,
      subst (λ (m : MachineValue). TakesTurn m c.advance.new.self a r took.0) stays.machine took.2,
    )

pub returns-in-Moved-clause-asleep : goal.returns-in-Moved-clause-asleep
returns-in-Moved-clause-asleep c r shown asleep =
    let m = c.args.machine.now in
    let n = c.args.awake.now.actors in
    let a = c.in-Some.actor in
    let l = c.loop-actor in
    let inv = l.invariant in
    let woken = c.in-Moved.woken in
    let valid = subst IsScript c.script.ensures c.actors-actors.ensures.valid in
    let adv = subst (λ x. Advances l.machine c.advance.new.self l.journal c.advance.new.journal a x) c.in-Moved.is c.in_ok-woken.ensures.advances in
    let wakes_so = (subst (λ (x : MachineValue). MayWakeOf x a woken) inv.2.machine adv.2) r shown in
    let law = law_here c.turns_wake_no_others.ensures m.script valid shown.reached.0 r (sym shown.reached.1) in
    let same = subst (λ (j : ℕ). (k : ℕ) → k < j → is_awake c.wake.new.awake k ≡ awake_behind (woken_of woken) j (is_awake l.awake) k) inv.0 c.wake.ensures.awake in
    asleep_behind m.script r n a (is_awake l.awake) (is_awake c.wake.new.awake) woken law c.in-Some.ensures.awake (inv.1 r shown asleep) wakes_so same

pub loop-actor-smaller-in-Waits : goal.loop-actor-smaller-in-Waits
loop-actor-smaller-in-Waits c =
    let l = c.loop-actor.awake in
    let falls = count_falls l.actors c.in-Some.actor (is_awake l) c.in-Some.ensures.below c.in-Some.ensures.awake in
    subst (λ (k : ℕ). count_awake k (is_awake c.remove.new.self) < count_awake l.actors (is_awake l)) (sym c.remove.ensures.actors)
    (subst (λ (f : ℕ → Bool). count_awake l.actors f < count_awake l.actors (is_awake l)) (sym c.remove.ensures.awake) falls)

pub loop-actor-preserved-in-Waits : goal.loop-actor-preserved-in-Waits
loop-actor-preserved-in-Waits c =
    let m = c.args.machine.now in
    let n = c.args.awake.now.actors in
    let a = c.in-Some.actor in
    let l = c.loop-actor in
    let inv = l.invariant in
    let waiting = c.in-Waits._waiting in
    let adv = subst (λ x. Advances l.machine c.advance.new.self l.journal c.advance.new.journal a x) c.in-Waits.is c.in_ok-woken.ensures.advances in (
      c.remove.ensures.actors ∙ inv.0,
      λ r shown asleep.
          let waits = (subst (λ (x : MachineValue). WaitsFor x a waiting) inv.2.machine adv.0) r shown in
          subst (λ (f : ℕ → Bool). AreAsleep m.script r n f) (sym c.remove.ensures.awake)
          (falls_asleep m.script r n a (is_awake l.awake) (waits_so m.script r a waiting waits) (inv.1 r shown asleep)),
      still_stays m l.machine c.advance.new.self c.args.journal.now l.journal c.advance.new.journal inv.2 adv.1,
    )

pub loop-actor-smaller : goal.loop-actor-smaller
loop-actor-smaller c =
    let l = c.loop-actor.awake in
    let falls = count_falls l.actors c.in-Some.actor (is_awake l) c.in-Some.ensures.below c.in-Some.ensures.awake in
    subst (λ (k : ℕ). count_awake k (is_awake c.remove-in-Finished.new.self) < count_awake l.actors (is_awake l)) (sym c.remove-in-Finished.ensures.actors)
    (subst (λ (f : ℕ → Bool). count_awake l.actors f < count_awake l.actors (is_awake l)) (sym c.remove-in-Finished.ensures.awake) falls)

pub loop-actor-preserved : goal.loop-actor-preserved
loop-actor-preserved c =
    let m = c.args.machine.now in
    let n = c.args.awake.now.actors in
    let a = c.in-Some.actor in
    let l = c.loop-actor in
    let inv = l.invariant in
    let adv = subst (λ x. Advances l.machine c.advance.new.self l.journal c.advance.new.journal a x) c.in-Finished.is c.in_ok-woken.ensures.advances in (
      c.remove-in-Finished.ensures.actors ∙ inv.0,
      λ r shown asleep.
          let finished = (subst (λ (x : MachineValue). HasFinished x a) inv.2.machine adv.0) r shown in
          subst (λ (f : ℕ → Bool). AreAsleep m.script r n f) (sym c.remove-in-Finished.ensures.awake)
          (falls_asleep m.script r n a (is_awake l.awake) (finished_so m.script r a finished) (inv.1 r shown asleep)),
      still_stays m l.machine c.advance.new.self c.args.journal.now l.journal c.advance.new.journal inv.2 adv.1,
    )

pub returns-clause-next : goal.returns-clause-next
returns-clause-next c r shown asleep =
    let m = c.args.machine.now in
    let n = c.args.awake.now.actors in
    let l = c.loop-actor in
    let inv = l.invariant in
    let found = subst (λ (k : ℕ). awake_from (is_awake l.awake) k k c.args.pointer ≡ None) inv.0 (sym c.next.ensures.next ∙ c.in_default.is) in
    asked_none m.script r n c.args.pointer (is_awake l.awake) c.requires.all (inv.1 r shown asleep) c.requires.there found
