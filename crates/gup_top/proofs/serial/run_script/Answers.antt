use Rattle.std.proofs.Common.{◌≡◌, ◌+◌, ◌*◌, ◌≤◌, Bool, false, Result, Ok, Err, refl, [], length, subst, ◌∙◌}
use Rattle.std.specs.Prelude.{IfOk}
use Rattle.gup_script.specs.Script.{ScriptValue}
use Rattle.gup_spec_journal.specs.Place.{first_place}
use Rattle.gup_spec_journal.specs.Plain.{AreSo, IsRightAt, judged_first}
use Rattle.gup_spec_turns.specs.Cause.{HaveFinished}
use Rattle.gup_spec_turns.specs.Cost.{operations, forks}
use Rattle.gup_spec_turns.specs.Run.{RunState, run_start, IsCoreRun}
use Rattle.gup_core.specs.Machine.{Shows}
use Rattle.gup_sched.specs.Ran.{SaysStuck}
use Rattle.gup_sched.specs.declared.run.Run.{Run}
use Rattle.gup_top.specs.Report.{IsEndOfRun}
use Rattle.gup_top.proofs.Causes.{AreExact, caused, outcomes_answered}
use Rattle.gup_top.proofs.RunEnd.{all_wait}
use Rattle.gup_top.proofs.serial.run_script.Goals as goal

ok_more : {X E : Type 0} (P Q : X → Type 0) (r : Result X E) → ((x : X) → P x → Q x) → IfOk r P → IfOk r Q
ok_more P Q (Ok x) more p = more x p
ok_more P Q (Err e) more p = tt

-- a run of a machine's own script is one of the script that the machine was made of
abbrev IsRun : (s : ScriptValue) → Run → Type 0
IsRun s ran =
    (end : RunState) × IsCoreRun s ran.journal.notes end × Shows ran.machine end × SaysStuck ran.stuck s end
    × (end.turns ≤ length s.turns + (1025 * operations s + 527361 * forks s)) × (ran.machine.turns ≡ end.turns)

run_of : (m script : ScriptValue) (ran : Run) → m ≡ script → IsRun m ran → IsRun script ran
run_of m script ran same run = subst (λ (s : ScriptValue). IsRun s ran) same run

finished : (stuck : Bool) (script : ScriptValue) (end : RunState) → SaysStuck stuck script end → stuck ≡ false → HaveFinished script end
finished stuck script end says is = subst (λ (b : Bool). SaysStuck b script end) is says

abbrev HasEnd : (s : ScriptValue) → Run → Type 0
HasEnd s ran = (end : RunState) × IsEndOfRun s ran.stuck ran.journal.notes ran.machine end

pub returns-clause-run : goal.returns-clause-run
returns-clause-run c =
    let script = c.args.script in
    let own = c.in_ok-machine.machine.script in
    let made = c.in_ok-machine.ensures.script in
    let valid = c.actors-actors.ensures.valid in
    let exact : AreExact = record { lacks = c.no_frame_has_its_cause.ensures; untouched = c.moves_have_their_causes.ensures.untouched; busy = c.moves_have_their_causes.ensures.busy; unmovable = c.pins_have_their_causes.ensures; stale = c.looks_have_their_cause.ensures } in
    let whole : (ran : Run) → IsRun own ran → HasEnd script ran = λ ran told.
    let run = run_of own script ran made told in
    let notes = ran.journal.notes in
    let end : RunState = run.0 in
    let core = run.1 in
    let plain = c.core_run_is_plain.ensures.run script notes end valid core in
    let stays = c.runs_end_at_waits.ensures.ends script core.0 end core.2 in
    let named = c.runs_end_at_waits.ensures.waits script core.0 end valid core.2 in (
      end,
      record {
        run = record {
          follows = c.core_run_follows.ensures.run script notes end valid core;
          in_order = c.core_run_is_in_order.ensures script notes end valid core;
          plain = plain;
          thorough = c.core_run_is_thorough.ensures.run script notes end valid core;
          accepted = c.core_runs_are_accepted.ensures script notes end valid core;
          owned = c.plain_journals_are_owned.ensures script notes plain;
          causes =
              (core.0, end, core.1, core.2, caused exact script valid (judged_first script) 1 (λ _. first_place) core.0 (run_start script) end ([], refl) (c.runs_are_turns.ensures.run script core.0 (run_start script) end core.2) (subst (AreSo IsRightAt script (judged_first script)) core.1 plain));
          stale = c.looks_are_stale_with_cause.ensures.run script notes end valid core;
          core = core;
          ends = run.3;
          waits = all_wait script end stays named;
          lines = λ is. outcomes_answered notes ∙ c.finished_runs_answer_all.ensures.run script notes end valid core (finished ran.stuck script end run.3 is);
        };
        shown = run.2;
        turns = run.5;
        named = named;
      },
    ) in
    ok_more (IsRun own) (HasEnd script) c.run_machine.result whole c.run_machine.ensures.core

pub returns-clause-script : goal.returns-clause-script
returns-clause-script c =
    let made = c.in_ok-machine.ensures.script in
    ok_more (λ (ran : Run). ran.machine.script ≡ c.in_ok-machine.machine.script) (λ ran. ran.machine.script ≡ c.args.script) c.run_machine.result (λ ran same. same ∙ made) c.run_machine.ensures.script
