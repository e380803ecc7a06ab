use Rattle.std.proofs.Common.{◌≡◌, take}
use Rattle.gup_base.specs.Parts.{words_of}
use Rattle.gup_check_plain.proofs.handles.words_of.Given as goal

-- those of the parts so far
abbrev pub invariant-loop-part : goal.invariant-loop-part
invariant-loop-part l = l.words ≡ words_of (take l.part-index l.parts)
