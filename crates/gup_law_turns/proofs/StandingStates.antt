-- What stands between two turns of a run, and what each turn is.
use Rattle.std.proofs.Common.{◌≡◌, ℕ, ◌*◌, ◌≤◌, ◌<◌, false, length, Option, Some, None}
use Rattle.std.specs.Prelude.{◌⊎◌}
use Rattle.gup_plain.specs.Event.{most_pages}
use Rattle.gup_plain.specs.State.{Birth, unborn, born, failed, unmade}
use Rattle.gup_plain.specs.declared.note.Waiting.{Waiting}
use Rattle.gup_script.specs.Script.{ScriptValue}
use Rattle.gup_script.specs.Valid.{ForksAt, MakesAt}
use Rattle.gup_script.specs.declared.op.Op.{Op}
use Rattle.gup_script.specs.declared.op.Op.TheVariants.{Fork}
use Rattle.gup_spec_events.specs.State.{CoreState, plain_of}
use Rattle.gup_spec_events.specs.Event.{run}
use Rattle.gup_law_base.specs.Sound.{IsSound}
use Rattle.gup_law_tables.specs.Standing.{TablesStand}
use Rattle.gup_spec_journal.specs.Place.{Place, Doer, doer_of, birth_for}
use Rattle.gup_plain.specs.Pages.{sum_below, mapped_pages}
use Rattle.gup_spec_turns.specs.JobPlace.{place_in}
use Rattle.gup_law_turns.specs.Standing.{CopyStands, StandsHandle, back_in, IsUnmade}
use Rattle.gup_spec_turns.specs.Run.{RunState, op_in}
use Rattle.gup_spec_turns.specs.CoreTurn.{CoreTurn}
use Rattle.gup_script.specs.Limits.{most_mirrors}
use Rattle.gup_law_turns.proofs.CountedFrames.{AreCountedThere}
use Rattle.gup_law_turns.proofs.TurnShapes.{references_of, FitsAt, TurnAt, AtRest, IsDone, child_of, strand_of}
use Rattle.gup_law_turns.proofs.ShownTurns.{FitsNext, MakesPin}

-- one of a process that is not unborn any more, and how many of the first n processes are so
abbrev pub brought : Birth → ℕ
brought unborn = 0
brought b = 1

abbrev pub all_brought : (n : ℕ) → (ℕ → Birth) → ℕ
all_brought n birth = sum_below n (λ p. brought (birth p))

pub record IsFew (n : ℕ) (s : CoreState) : Type 0 where
  pub mapped : (p : ℕ) → mapped_pages (s.right p) ≤ s.pages p
  pub pages : (p : ℕ) → s.pages p ≤ most_pages
  pub forked : (p : ℕ) → s.sequence p ≤ 2 * all_brought n s.birth

-- an actor has not begun the operation with this number
abbrev pub IsAhead : Place → (k : ℕ) → Type 0
IsAhead place k = (place.answered < k) ⊎ ((place.answered ≡ k) × (place.far ≡ 0))

-- what holds of a run between two turns
pub record Stands (script : ScriptValue) (r : RunState) : Type 0 where
  pub sound : IsSound r.core
  pub tables : TablesStand r.core
  pub copies : (a : ℕ) → CopyStands r.core a
  -- no slot past the last one is filled
  pub slots : (m f : ℕ) → r.core.mirrored m ≡ Some f → m < most_mirrors
  pub there : AreCountedThere r.core
  pub rest : (a : ℕ) → AtRest r.core a
  pub few : IsFew (length script.processes) r.core
  -- a process that failed has given back its entries; all but unborn ones are declared
  pub emptied : (p page : ℕ) → r.core.birth p ≡ failed → r.core.entry p page ≡ None
  pub declared : (p : ℕ) → (r.core.birth p ≡ unborn → ⊥) → p < length script.processes
  -- each actor stands where its operation can, and in the middle of one of a process only where that is born
  pub fits : (a : ℕ) → FitsAt r.core (doer_of script a (op_in script r a)) (op_in script r a) (r.places a)
  pub begun : (a : ℕ) → 0 < (r.places a).far → birth_for r.core.birth (doer_of script a (op_in script r a)) ≡ born
  pub fresh : (a : ℕ) → (r.places a).far ≡ 0 → (r.places a).had ≡ false
  -- the child of a fork that has not begun is unborn
  pub unforked : (a k child : ℕ) → ForksAt script a k child → IsAhead (r.places a) k → r.core.birth child ≡ unborn
  -- the handle of a pin or a reference that is not answered is unmade; those that are made are declared, and those of pins
  -- have their pages
  pub yet_unmade : (a k h : ℕ) → MakesAt script a k h → (r.places a).answered ≤ k → IsUnmade r.core h
  pub made : (h : ℕ) → (r.core.handle h ≡ unmade → ⊥) → h < length script.handles
  pub got : (h : ℕ) → (r.core.got h ≡ None → ⊥) → h < length script.handles
  pub handles : (h : ℕ) → StandsHandle (back_in script r h) (r.core.pinned h) (r.core.handle h)

-- a turn can be done, it has its shape, and the actor stands right after it
pub record IsTaken (s : CoreState) (who : Doer) (place : Place) (op : Option Op) (waiting : Option Waiting) (turn : CoreTurn) : Type 0 where
  pub done : IsDone s who.actor who.proc (child_of who.proc op) (strand_of op) turn
  pub shape : TurnAt (plain_of s) (references_of s) who place op waiting (place_in s who.actor) turn.whats (place_in (run s turn.events) who.actor)
  pub next : FitsNext (run s turn.events) who op place turn.whats
  pub pin : (o : Op) → op ≡ Some o → waiting ≡ None → birth_for s.birth who ≡ born → MakesPin s (run s turn.events) who.actor o
  pub copies : CopyStands (run s turn.events) who.actor
  -- the child of a fork that fails has no entries after it
  pub emptied : (child page : ℕ) → op ≡ Some (Fork child) → (run s turn.events).birth child ≡ failed → (run s turn.events).entry child page ≡ None
