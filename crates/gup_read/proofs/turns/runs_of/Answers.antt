use Rattle.std.proofs.Common.{◌≡◌, ℕ, ◌+◌, List, [], Err, Some, get_or, drop, sym, ap, ◌∙◌, arith, rules, length-drop}
use Rattle.std.specs.Borrow.{Bor}
use Rattle.gup_spec_grammar.specs.declared.fault.Reason.{Reason}
use Rattle.gup_read_words.specs.Text.{turn_times}
use Rattle.gup_read.specs.Reading.{turner}
use Rattle.gup_read.specs.Runs.{turn_in}
use Rattle.gup_read.proofs.Turners.{texts, in_front, same_word, none_judged, one_judged, one_wrong}
use Rattle.gup_read.proofs.turns.runs_of.Goals as goal
use Rattle.gup_read.proofs.turns.runs_of.Goals.{then-ne+in-Some-turn_of, else-ne}

abbrev none : Bor (List ℕ)
none = record { ref_ptr = (0, 0); now = [] }

pub loop-word-init : goal.loop-word-init
loop-word-init c =
    let words = c.args.words.now in
    let front = in_front words 0 none (omega arith) in
    record {
      before = sym c.turn_of.ensures ∙ search rules;
      text = search rules;
      judged = rw (c.in_ok-runs.ensures.items, front) (none_judged c.args.reader.now (get_or words 0 none).now (texts (drop 1 words)));
      room = omega (arith, c.in_ok-runs.ensures.len, c.in_ok-runs.ensures.capacity);
    }

pub returns-in_default-turn_of-2-clause-refused : goal.returns-in_default-turn_of-2-clause-refused
returns-in_default-turn_of-2-clause-refused c =
    let words = c.args.words.now in
    let at = c.loop-word.word-index in
    let word = get_or words at none in
    let judged = rw (in_front words at none c.loop-word-test.true) at c.loop-word.invariant.judged in
    let wrong = one_wrong c.args.reader.now (texts words) (texts (drop (at + 1) words)) word.now c.loop-word.runs.items (sym c.turn_of-then-ne.ensures ∙ c.in_default-turn_of-2.is) judged in
    wrong ∙ ap (λ (r : Reason). Err r) (sym c.fault_of-in_default-turn_of-2.ensures)

pub loop-word-preserved : goal.loop-word-preserved
loop-word-preserved c =
    let words = c.args.words.now in
    let at = c.loop-word.word-index in
    let word = get_or words at none in
    let st = c.args.reader.now in
    let h = c.ne.ensures in
    let turn : turn_in (turner st word.now) (turn_times word.now) ≡ Some (c.if-ne.actor, c.if-ne.times) =
    elim c.if-ne.branch [
      | then-ne+in-Some-turn_of w ↦ sym w.turn_of-then-ne.ensures ∙ rw (w.actor-is, w.times-is) (search rules)
      | else-ne w ↦ rw (same_word word.now c.loop-word.before.now c.ne.result c.ne.ensures w.if-ne.false, w.actor-is, w.times-is) c.loop-word.invariant.before
    ] in
    let b : c.if-ne.before.now ≡ word.now =
    elim c.if-ne.branch [
      | then-ne+in-Some-turn_of w ↦ ap (λ (b : Bor (List ℕ)). b.now) w.before-is
      | else-ne w ↦ ap (λ (b : Bor (List ℕ)). b.now) w.before-is ∙ sym (same_word word.now c.loop-word.before.now c.ne.result c.ne.ensures w.if-ne.false)
    ] in
    let judged = rw (in_front words at none c.loop-word-test.true) at c.loop-word.invariant.judged in
    record {
      before = rw b turn;
      text = rw b (search rules);
      judged = rw c.push_reserved.ensures.items (one_judged st (texts words) (texts (drop (at + 1) words)) word.now c.loop-word.runs.items c.if-ne.actor c.if-ne.times turn judged);
      room = rw (c.push_reserved.ensures.len, c.push_reserved.ensures.capacity) (omega (arith, length-drop (at + 1) words, length-drop at words, c.loop-word.invariant.room, c.loop-word-test.true));
    }
