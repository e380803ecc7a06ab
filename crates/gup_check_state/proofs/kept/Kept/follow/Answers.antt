use Rattle.std.proofs.Common.{rules, slice_get, ◌+◌, sym, ◌∙◌, ap, subst}
use Rattle.gup_check_state.specs.Presence.{op_at, AnswersOne}
use Rattle.gup_check_state.specs.Ranges.{MapsInRange}
use Rattle.gup_check_state.proofs.Fitting.{fit_range, fit_answers}
use Rattle.gup_check_state.proofs.Followed.{all_behind, references_are, mapped_are}
use Rattle.gup_check_state.proofs.Operations.{op_present}
use Rattle.gup_check_state.proofs.kept.Kept.follow.Goals as goal

pub follow_mapping-requires : goal.follow_mapping-requires
follow_mapping-requires c =
    subst MapsInRange (sym c.what-what.ensures)
    (fit_range c.args.script.now c.requires.fits.0 c.args.note.now c.args.fit.now (λ k op there. (c.operations_fit.ensures c.args.script.now c.args.note.now.actor k op c.present_op-op.ensures.valid there).1) c.requires.fits.3)

pub follow_actor-requires-clause-answers : goal.follow_actor-requires-clause-answers
follow_actor-requires-clause-answers c =
    subst (AnswersOne c.args.note.now.what)
    (sym (op_present c.args.script.now c.requires.fits.0 c.requires.fits.1 c.args.self.now.actors.items c.args.note.now.actor (search rules) c.requires.fits.2.progress c.requires.fits.4))
    (fit_answers c.args.script.now c.requires.fits.0 c.args.note.now c.args.fit.now c.requires.fits.4 c.requires.fits.3)

pub returns : goal.returns
returns c seen times shows fits agree =
    record {
      plain = shows.plain;
      actors = shows.actors;
      references = references_are _ _ seen.judged.references _ c.args.note.now.actor _ _ _ c.args.note.now.what c.in_ok-follow_references.ensures shows.references c.actor-actor.ensures
          (c.present_op-op.ensures.op ∙ ap (λ a. op_at c.args.script.now a (slice_get c.args.self.now.actors.items a)) c.actor-actor.ensures ∙ op_present c.args.script.now seen times c.args.self.now.actors.items c.args.note.now.actor (search rules) shows.progress agree)
          c.what-what.ensures;
      mapped = mapped_are _ _ times.mapped _ (times.count + 1) _ c.args.note.now.what c.in_ok-follow_mapping.ensures shows.mapped (ap (λ n. n + 1) shows.count) c.what-what.ensures;
      many = c.follow_actor.ensures.many ∙ shows.many;
      progress = all_behind c.args.script.now seen times c.args.note.now c.args.self.now.actors.items c.follow_actor.new.actors.items shows.progress (c.follow_actor.ensures.own seen times (shows.progress c.args.note.now.actor) fits agree (ap (λ n. n + 1) shows.count)) c.follow_actor.ensures.others;
      last = (c.turn.ensures, c.actor-actor.ensures);
      count = ap (λ n. n + 1) shows.count;
    }
