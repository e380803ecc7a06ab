use Rattle.std.proofs.Common.{List, [], ◌∷◌, ◌++◌, take, sym, ap, subst, ◌∙◌}
use Rattle.std.proofs.lemmas.List.{take_more, take_all}
use Rattle.gup_plain.specs.Note.{NoteValue}
use Rattle.gup_search.specs.Search.{Tells}
use Rattle.gup_search.proofs.Tellings.{tells_more}
use Rattle.gup_search.proofs.tells.tell_notes.Goals as goal

pub loop-note-preserved : goal.loop-note-preserved
loop-note-preserved c =
    let notes = c.args.notes.now in
    let i = c.loop-note.note-index in
    let note = c.note-item.result in (
      subst (λ (ns : List NoteValue). Tells c.args.named.now c.args.tells.now.items c.tell_note.new.tells.items ns)
          (ap (λ (n : NoteValue). take i notes ++ n ∷ []) c.note-item.is ∙ sym (take_more notes i note c.loop-note-test.true))
          (tells_more c.args.named.now c.args.tells.now.items c.loop-note.tells.items c.tell_note.new.tells.items (take i notes) (note ∷ []) c.loop-note.invariant.0 c.in_ok-tell_note.ensures.tells),
      λ up. c.in_ok-tell_note.ensures.in_order (c.loop-note.invariant.1 up),
    )

pub returns-clause-tells : goal.returns-clause-tells
returns-clause-tells c =
    subst (λ (ns : List NoteValue). Tells c.args.named.now c.args.tells.now.items c.loop-note.tells.items ns) (take_all c.loop-note.note-index c.args.notes.now c.loop-note-test.false)
    c.loop-note.invariant.0
