-- The turns that the words of a line are found to say, while the line is judged.
use Rattle.std.specs.Prelude.{ℕ, List, [], ◌∷◌, ◌++◌, replicate, Option, Some, None, Result, Err}
use Rattle.gup_spec_grammar.specs.declared.fault.Reason.{Reason}
use Rattle.gup_spec_grammar.specs.declared.fault.Reason.TheVariants as reasons
use Rattle.gup_spec_grammar.specs.Outline.{Outline}
use Rattle.gup_read.specs.declared.turns.Run.{Run}
use Rattle.gup_read.specs.Reading.{◌>>=◌, check, are_times, are_turners}

-- the turns of all runs
abbrev pub spread : List Run → List ℕ
spread [] = []
spread (run ∷ runs) = replicate run.times run.actor ++ spread runs

-- whose turns, and how many, if both are right
abbrev pub turn_in : (turner times : Option ℕ) → Option (ℕ × ℕ)
turn_in (Some actor) (Some times) = Some (actor, times)
turn_in _ _ = None

-- the tests of the words alone, in the order of their reasons
abbrev pub turners_in : Outline → List (List ℕ) → Result Unit Reason
turners_in st [] = Err reasons.Shape
turners_in st (first ∷ more) = do
  _ ← check reasons.Number (are_times (first ∷ more))
  check reasons.Name (are_turners st (first ∷ more))
