use Rattle.std.proofs.Common.{ℕ, ◌∙◌, List, ◌++◌, ap, sym, append-nil}
use Rattle.std.proofs.lemmas.List.{at_drop_all}
use Rattle.gup_lines.specs.declared.outcome.Outcome.{Outcome}
use Rattle.gup_lines.specs.Moved.{words_of}
use Rattle.gup_lines.specs.Text.{outcomes_from}
use Rattle.gup_lines.proofs.Moved.{told_more}
use Rattle.gup_lines.proofs.lines.told_in.Goals as goal

-- nobody has moved a word
pub loop-note-init : goal.loop-note-init
loop-note-init c =
    ap (λ (found : List Outcome). found ++ outcomes_from (words_of c.in_ok-moved.moved) c.args.notes.now) c.new-found.ensures.items
    ∙ ap (λ (moved : ℕ → List ℕ). outcomes_from moved c.args.notes.now) c.in_ok-moved.ensures

-- what the note tells is after the others
pub loop-note-preserved : goal.loop-note-preserved
loop-note-preserved c =
    told_more (words_of c.loop-note.moved) (words_of c.tell.new.moved) c.loop-note.found.items c.tell.new.found.items _ c.args.notes.now c.loop-note.note-index c.note-item.result
    c.loop-note-test.true c.note-item.is c.in_ok-tell.ensures.moved c.in_ok-tell.ensures.found c.loop-note.invariant

-- no note is left
pub returns : goal.returns
returns c =
    sym (append-nil c.loop-note.found.items)
    ∙ ap (λ (rest : List Outcome). c.loop-note.found.items ++ rest) (sym (at_drop_all (outcomes_from (words_of c.loop-note.moved)) c.args.notes.now c.loop-note.note-index c.loop-note-test.false))
    ∙ c.loop-note.invariant
