use Rattle.std.proofs.Common.{◌≡◌, ◌+◌, ◌^◌, ◌<◌, List, length, sym, subst}
use Rattle.gup_plain.specs.Note.{NoteValue}
use Rattle.gup_sketch.proofs.Going.{follows_there, going_on, is_to}
use Rattle.gup_sketch.proofs.whole.sketch.Goals as goal

pub follow-requires-clause-there : goal.follow-requires-clause-there
follow-requires-clause-there c =
    follows_there c.args.trace.now.script c.notes-notes.result.now c.loop-turn.rest.now c.in-Some.turn.now c.in-Some.behind.now c.loop-turn.replay c.in-Some.ensures.cut.0 c.in-Some.ensures.cut.1 c.loop-turn.invariant

-- as many notes as the trace has
few : (notes journal : List NoteValue) → notes ≡ journal → length journal + 1 < 2 ^ 32 → length notes + 1 < 2 ^ 32
few notes journal same h = subst (λ (ns : List NoteValue). length ns + 1 < 2 ^ 32) (sym same) h

pub end-requires : goal.end-requires
end-requires c =
    is_to c.args.trace.now.script c.notes-notes.result.now c.in-Some.behind.now c.follow.new.self
    (going_on c.args.trace.now.script c.notes-notes.result.now c.loop-turn.rest.now c.in-Some.turn.now c.in-Some.behind.now c.loop-turn.replay c.follow.new.self c.in-Some.ensures.cut.0 c.in-Some.ensures.cut.1 (few c.notes-notes.result.now c.args.trace.now.journal.notes c.notes-notes.ensures c.requires.few) c.follow.ensures c.loop-turn.invariant)

pub loop-turn-preserved : goal.loop-turn-preserved
loop-turn-preserved c =
    going_on c.args.trace.now.script c.notes-notes.result.now c.loop-turn.rest.now c.in-Some.turn.now c.in-Some.behind.now c.loop-turn.replay c.follow.new.self c.in-Some.ensures.cut.0 c.in-Some.ensures.cut.1 (few c.notes-notes.result.now c.args.trace.now.journal.notes c.notes-notes.ensures c.requires.few) c.follow.ensures c.loop-turn.invariant
