use Rattle.std.proofs.Common.{Result, Ok, Err}
use Rattle.std.specs.Prelude.{IfOk}
use Rattle.gup_live.specs.Live.{LiveValue, IsLive}
use Rattle.gup_top.specs.LiveRun.{IsLiveRun}
use Rattle.gup_top.proofs.LiveRuns.{AreLaws, live_run}
use Rattle.gup_top.proofs.live.run_live.Goals as goal

ok_more : {X E : Type 0} (P Q : X → Type 0) (r : Result X E) → ((x : X) → P x → Q x) → IfOk r P → IfOk r Q
ok_more P Q (Ok x) more p = more x p
ok_more P Q (Err e) more p = tt

pub returns : goal.returns
returns g c =
    let script = c.args.script.now in
    let laws : AreLaws = record {
      exact = record { lacks = c.no_frame_has_its_cause.ensures; untouched = c.moves_have_their_causes.ensures.untouched; busy = c.moves_have_their_causes.ensures.busy; unmovable = c.pins_have_their_causes.ensures; stale = c.looks_have_their_cause.ensures };
      follows = c.core_run_follows.ensures.turns;
      between = c.core_run_follows.ensures.between;
      plain = c.core_run_is_plain.ensures.turns;
      thorough = c.core_run_is_thorough.ensures.turns;
      owned = c.plain_journals_are_owned.ensures;
      stale = c.looks_are_stale_with_cause.ensures.turns;
      lines = c.finished_runs_answer_all.ensures.turns;
    } in
    ok_more (IsLive script) (IsLiveRun script) c.live.result (λ live ran. live_run laws script live c.actors-actors.ensures.valid ran) c.live.ensures
