use Rattle.std.proofs.Common.{◌+◌, List, take, IsTrue, sym, ◌∙◌, ap, subst, arith}
use Rattle.std.proofs.lemmas.List.{length-take-le}
use Rattle.gup_plain.specs.Note.{NoteValue}
use Rattle.gup_spec_check.specs.Seen.{seen_of}
use Rattle.gup_check_state.specs.Shows.{PlacesAgree}
use Rattle.gup_check.specs.Takes.{Takes}
use Rattle.gup_check.proofs.Taking.{could, cannot}
use Rattle.gup_check.proofs.Verdicts.{parted, one_more, counted_behind, all_taken, answered, ended}
use Rattle.gup_check.proofs.verdict.check.Goals as goal

-- src/verdict.rt:27:5
pub loop-before-init : goal.loop-before-init
loop-before-init c =
    (c.in_ok-kept.ensures.count, (c.notes_fit_one_by_one.ensures.none c.args.trace.now.script c.actors-actors.ensures.valid, c.in_ok-kept.ensures))

-- src/verdict.rt:29:13
pub returns-then-not-branch : goal.returns-then-not-branch
returns-then-not-branch c =
    let notes = c.notes-note-items.result.now in
    let before = c.loop-before.before in
    let note = c.note-item.result in
    let found = parted notes before note c.loop-before-test.true c.note-item.is in
    let front = take before notes in
    let wrong = cannot c.in_ok-take.field-0 _ _ (c.in_ok-take.ensures front c.loop-before.invariant.1) c.if-not-branch.true in (
      front,
      note,
      found.0,
      sym c.notes-note-items.ensures ∙ found.1,
      ap (λ n. n + 1) (sym (length-take-le before notes (omega (arith, c.loop-before-test.true)))),
      c.loop-before.invariant.1.0,
      wrong,
    )

-- src/verdict.rt:27:5
pub loop-before-preserved : goal.loop-before-preserved
loop-before-preserved c =
    let script = c.args.trace.now.script in
    let notes = c.notes-note-items.result.now in
    let before = c.loop-before.before in
    let note = c.note-item.result in
    let takes = could c.in_ok-take.field-0 _ _ (c.in_ok-take.ensures (take before notes) c.loop-before.invariant.1) c.if-not-branch.false in
    let more : Takes script c.take.new.kept (take (before + 1) notes) =
    subst (λ (front : List NoteValue). Takes script c.take.new.kept front) (sym (one_more notes before note c.loop-before-test.true c.note-item.is)) takes in
    (counted_behind script c.take.new.kept notes before c.loop-before-test.true more.1, more)

-- src/verdict.rt:21:1
pub returns-then-have_ended : goal.returns-then-have_ended
returns-then-have_ended c =
    let script = c.args.trace.now.script in
    let notes = c.args.trace.now.journal.notes in
    let takes = all_taken script c.loop-before.kept notes c.notes-note-items.result.now c.loop-before.before c.loop-before-test.false c.notes-note-items.ensures c.loop-before.invariant.1 in
    let agree : PlacesAgree (seen_of script notes) = λ a standing is. (c.standings_are_places.ensures script notes a standing is).0 in
    (takes.0, answered script c.loop-before.kept notes takes agree (c.answers_are_counted.ensures script notes) (c.have_ended.ensures.0 c.if-have_ended.true))

-- src/verdict.rt:19:1
pub returns : goal.returns
returns c =
    let script = c.args.trace.now.script in
    let notes = c.args.trace.now.journal.notes in
    let takes = all_taken script c.loop-before.kept notes c.notes-note-items.result.now c.loop-before.before c.loop-before-test.false c.notes-note-items.ensures c.loop-before.invariant.1 in
    let agree : PlacesAgree (seen_of script notes) = λ a standing is. (c.standings_are_places.ensures script notes a standing is).0 in
    let not_ended : IsTrue c.have_ended.result → ⊥ = λ is. absurd (cc (is, c.if-have_ended.false)) in
    (takes.0, λ all. not_ended (c.have_ended.ensures.1 (ended script c.loop-before.kept notes takes agree (c.answers_are_counted.ensures script notes) all)))
