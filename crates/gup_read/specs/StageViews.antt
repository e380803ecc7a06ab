-- How a stage of the code is read as a stage of the grammar, and what a line leads to.
use Rattle.std.specs.Prelude.{◌≡◌, ℕ, ◌+◌, List, [], ◌∷◌, length, Option, Some, None, Result, Ok, Err}
use Rattle.std.specs.Borrow.{Bor}
use Rattle.gup_spec_grammar.specs.Spelling.{parts}
use Rattle.gup_spec_grammar.specs.declared.fault.Reason.{Reason}
use Rattle.gup_read.specs.declared.refusal.Trouble.{Trouble}
use Rattle.gup_read.specs.declared.stage.Stage.{Stage as CodeStage}
use Rattle.gup_read.specs.declared.stage.Stage.TheVariants.{BeforeHead, BeforeFrames, Open}
use Rattle.gup_spec_grammar.specs.Grammar.{Stage, before_head, before_frames, open_at}
use Rattle.gup_read.specs.Steps.{IsTrouble}

abbrev pub stage_value : CodeStage → Stage
stage_value BeforeHead = before_head
stage_value BeforeFrames = before_frames
stage_value (Open st) = open_at st

abbrev pub LeadsTo : Result Stage Reason → (next : CodeStage) → Result Unit Trouble → Type 0
LeadsTo found next (Ok done) = found ≡ Ok (stage_value next)
LeadsTo found next (Err e) = IsTrouble found e

-- the first line of a text and what stands after its line feed, or none where there is no line feed
abbrev pub IsCut : List ℕ → Option (Bor (List ℕ) × Bor (List ℕ)) → Type 0
IsCut text None = parts 10 text ≡ text ∷ []
IsCut text (Some cut) =
    (parts 10 text ≡ cut.0.now ∷ parts 10 cut.1.now) × (length text ≡ length cut.0.now + 1 + length cut.1.now)
