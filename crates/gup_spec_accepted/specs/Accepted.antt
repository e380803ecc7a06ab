-- Notes are accepted for a script where, by the plain model, they can be the beginning of a journal of it, in whatever order its
-- actors take turns.
use Rattle.std.specs.Prelude.{List}
use Rattle.gup_plain.specs.Note.{NoteValue}
use Rattle.gup_script.specs.Script.{ScriptValue}
use Rattle.gup_spec_journal.specs.Plain.{IsPlain}
use Rattle.gup_spec_accepted.specs.Said.{BeginsFollowing}
use Rattle.gup_spec_accepted.specs.Turns.{AreTurns}
use Rattle.gup_spec_accepted.specs.Passing.{PassPages}
use Rattle.gup_spec_accepted.specs.Waits.{StandRight}

pub record Accepted (script : ScriptValue) (notes : List NoteValue) : Type 0 where
  -- turns are numbered, and the first are of the written actors
  pub turns : AreTurns script notes
  -- each actor's events and answers are those of its operations, in order; the last may be unended
  pub begins : BeginsFollowing script notes
  -- each event can happen in the plain state, and denials stand exactly where that gives them
  pub plain : IsPlain script notes
  -- no page is passed that was named all the time
  pub passing : PassPages script notes
  -- who waits has a cause, and who is idle has finished
  pub standing : StandRight script notes
