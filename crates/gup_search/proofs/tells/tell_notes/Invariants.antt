use Rattle.std.proofs.Common.{take}
use Rattle.gup_search.specs.Search.{Tells, KeepsOrder}
use Rattle.gup_search.proofs.tells.tell_notes.Given as goal

-- what the notes so far tell is put in
abbrev pub invariant-loop-note : goal.invariant-loop-note
invariant-loop-note l =
    Tells l.fn.named l.fn.tells.items l.tells.items (take l.note-index l.notes) × KeepsOrder l.fn.named l.fn.tells.items l.tells.items
