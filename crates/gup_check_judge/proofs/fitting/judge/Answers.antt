use Rattle.std.proofs.Common.{ℕ, ◌<◌, length, slice_get, sym, ◌∙◌, ap, subst}
use Rattle.gup_script.specs.Script.{ops_of}
use Rattle.gup_check_judge.proofs.Actors.{declared_shown}
use Rattle.gup_check_judge.proofs.Behind.{stranger_judged, finished_judged}
use Rattle.gup_check_judge.proofs.fitting.judge.Goals as goal

pub returns-then-not-fits_turn : goal.returns-then-not-fits_turn
returns-then-not-fits_turn c seen times shows knows fits = absurd (cc ((c.fits_turn.ensures seen times shows).1 fits.turn, c.if-not-fits_turn.true))

pub returns-in_default : goal.returns-in_default
returns-in_default c seen times shows knows =
    stranger_judged c.args.script.now c.args.kept.now seen times c.args.note.now c.actor-actor.result c.what.result c.judge_behind.result shows knows
    ((c.fits_turn.ensures seen times shows).0 c.if-not-fits_turn.false) c.actor-actor.ensures c.in_default.ensures c.what.ensures c.judge_behind.ensures

pub op_behind-requires : goal.op_behind-requires
op_behind-requires c =
    declared_shown c.args.script.now c.args.kept.now c.requires.0 c.requires.1 c.actor-actor.result c.in-Some.progress.now c.requires.2 c.in-Some.ensures

pub judge_within-requires-clause-present : goal.judge_within-requires-clause-present
judge_within-requires-clause-present c =
    record {
      valid = c.actors-actors.ensures.valid;
      declared = subst (λ (a : ℕ). a < length c.args.script.now.actors) c.actor-actor.ensures
          (declared_shown c.args.script.now c.args.kept.now c.requires.0 c.requires.1 c.actor-actor.result c.in-Some.progress.now c.requires.2 c.in-Some.ensures);
      kept_so = ap (slice_get c.args.kept.now.actors.items) (sym c.actor-actor.ensures) ∙ c.in-Some.ensures;
      next = ap (λ (a : ℕ). slice_get (ops_of c.args.script.now a) c.in-Some.progress.now.answered) (sym c.actor-actor.ensures) ∙ c.in-Some-op_behind.ensures;
    }

pub returns-in-None : goal.returns-in-None
returns-in-None c seen times shows knows =
    finished_judged c.args.script.now c.args.kept.now seen times c.args.note.now c.actor-actor.result c.in-Some.progress.now c.what-in-None.result c.judge_behind-in-None.result shows knows
    ((c.fits_turn.ensures seen times shows).0 c.if-not-fits_turn.false) c.actor-actor.ensures c.in-Some.ensures c.in-None.ensures c.what-in-None.ensures c.judge_behind-in-None.ensures

pub returns-in-Some-op_behind : goal.returns-in-Some-op_behind
returns-in-Some-op_behind c seen times shows knows =
    c.judge_within.ensures seen times shows knows ((c.fits_turn.ensures seen times shows).0 c.if-not-fits_turn.false)
