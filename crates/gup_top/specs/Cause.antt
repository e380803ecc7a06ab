-- The causes of refusals.
use Rattle.std.specs.Prelude.{◌≡◌, ℕ, List, [], ◌∷◌, Option, Some}
use Rattle.gup_plain.specs.Note.{NoteValue}
use Rattle.gup_plain.specs.State.{PlainState}
use Rattle.gup_plain.specs.declared.answer.Answer.{Answer}
use Rattle.gup_plain.specs.declared.answer.Answer.TheVariants.{Plain, Value, Pinned, Words, NoFrame, Unmovable, Busy, Untouched, Stale}
use Rattle.gup_plain.specs.declared.note.What.{What}
use Rattle.gup_plain.specs.declared.note.What.TheVariants.{Done}
use Rattle.gup_script.specs.declared.op.Op.{Op}
use Rattle.gup_script.specs.Script.{ScriptValue}
use Rattle.gup_spec_journal.specs.Denial.{References, denial}
use Rattle.gup_spec_journal.specs.Order.{Turn, journal_of}
use Rattle.gup_spec_journal.specs.Place.{Doer, first_place, doer_of, present_op}
use Rattle.gup_spec_journal.specs.Plain.{Judged, judged_first, judged_by, got_at, refusal_in}
use Rattle.gup_spec_turns.specs.Cause.{CoreCause, LacksExactly, UntouchedExactly, BusyExactly, UnmovableExactly, StaleExactly}
use Rattle.gup_spec_turns.specs.Run.{RunState, Runs, run_start, run_after}

-- What causes an answer, by what it says: a denial, that the plain state denies the operation so; another refusal, what the
-- core state has for it. What refuses nothing needs no cause.
abbrev pub IsCausedBy : (core : Answer → Type 0) → (denied : Option Answer) → Answer → Type 0
IsCausedBy core denied Plain = Unit {0}
IsCausedBy core denied (Value value) = Unit {0}
IsCausedBy core denied (Pinned pages) = Unit {0}
IsCausedBy core denied Words = Unit {0}
IsCausedBy core denied NoFrame = core NoFrame
IsCausedBy core denied (Unmovable count) = core (Unmovable count)
IsCausedBy core denied (Busy count) = core (Busy count)
IsCausedBy core denied Untouched = core Untouched
IsCausedBy core denied Stale = core Stale
IsCausedBy core denied answer = denied ≡ Some answer

-- An answer has its cause; that of a short pin is what refused the page that ended it.
abbrev pub IsCausedAt : (core : Answer → Type 0) → PlainState → References → Doer → Option Op → What → Type 0
IsCausedAt core s references who (Some op) (Done answer) =
    IsCausedBy core (denial s references who (got_at s who.actor answer) op) (refusal_in answer)
IsCausedAt core s references who op what = Unit {0}

-- what notes of actor a have led to, after what was before
abbrev pub judged_turn : ScriptValue → Judged → (a : ℕ) → List What → Judged
judged_turn script j a [] = j
judged_turn script j a (what ∷ whats) = judged_turn script (judged_by script j a what) a whats

-- each answer of a turn of actor a is no refusal's, or has its cause in what the notes before it have led to
abbrev pub IsCausedTurn : (core : Answer → Type 0) → ScriptValue → Judged → (a : ℕ) → List What → Type 0
IsCausedTurn core script j a [] = Unit {0}
IsCausedTurn core script j a (what ∷ whats) =
    let op = present_op script a (j.places a) in
    IsCausedAt core j.plain j.references (doer_of script a op) op what
    × IsCausedTurn core script (judged_by script j a what) a whats

-- a turn refuses for want of a frame, or an untouched, busy or unmovable page, or a stale slot, exactly where its operation finds it
-- so
abbrev pub IsExact : ScriptValue → RunState → Turn → Type 0
IsExact script r turn =
    LacksExactly script r turn × UntouchedExactly script r turn × BusyExactly script r turn × UnmovableExactly script r turn
    × StaleExactly script r turn

-- the same of each turn of a core run from here on
abbrev pub AreCaused : ScriptValue → RunState → Judged → List Turn → Type 0
AreCaused script r j [] = Unit {0}
AreCaused script r j (turn ∷ turns) =
    IsCausedTurn (CoreCause script r turn.actor) script j turn.actor turn.whats
    × IsExact script r turn
    × AreCaused script (run_after script r turn.actor) (judged_turn script j turn.actor turn.whats) turns

-- Every refusal is the plain state's, or the core state's of its turn in the core run whose journal it is. One for want of a
-- frame comes exactly where the turn needs a frame and none is free that it may take; that a page is untouched, busy or can't be
-- moved comes exactly where its entry is not there, or where that many references of its frame were counted. A look is stale exactly
-- where its slot is empty.
abbrev pub HasCauses : ScriptValue → List NoteValue → Type 0
HasCauses script notes =
    (turns : List Turn) × (end : RunState) × (notes ≡ journal_of 1 (λ _. first_place) turns)
    × Runs script (run_start script) turns end × AreCaused script (run_start script) (judged_first script) turns
