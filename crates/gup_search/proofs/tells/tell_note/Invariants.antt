use Rattle.gup_search.specs.Search.{KeepsOrder}
use Rattle.gup_search.proofs.Loops.{TellsTo}
use Rattle.gup_search.proofs.tells.tell_note.Given as goal

-- what the note tells is put in for the operations so far
abbrev pub invariant-loop-name : goal.invariant-loop-name
invariant-loop-name l =
    TellsTo l.fn.named l.fn.tells.items l.tells.items l.fn.note l.name × KeepsOrder l.fn.named l.fn.tells.items l.tells.items
