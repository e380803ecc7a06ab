-- The end of a run: who waits, and the lines of those.
use Rattle.std.proofs.Common.{◌≡◌, ℕ, ◌<◌, ◌≤◌, Bool, true, false, List, [], ◌∷◌, ◌++◌, Option, Some, None, slice_get, length, inl, inr, refl, sym, ap, subst, ◌∙◌, zero, suc, arith, append-nil}
use Rattle.std.specs.Prelude.{◌==◌}
use Rattle.std.proofs.lemmas.Bool.{leb-true, leb-false}
use Rattle.std.proofs.lemmas.Option.{slice_get_past}
use Rattle.gup_plain.specs.Note.{NoteValue}
use Rattle.gup_plain.specs.declared.note.Waiting.{Waiting}
use Rattle.gup_script.specs.declared.op.Op.{Op}
use Rattle.gup_script.specs.Script.{ScriptValue}
use Rattle.gup_core.specs.Machine.{MachineValue}
use Rattle.gup_spec_journal.specs.Place.{has_finished, ops_of, doer_of}
use Rattle.gup_spec_turns.specs.Cause.{HaveFinished, WaitsForBirthOrPin}
use Rattle.gup_spec_turns.specs.Run.{RunState, op_in, waiting_with, waiting_in, is_ready, can_go, IsCoreRun}
use Rattle.gup_lines.specs.Text.{NamesWaiting, text_of}
use Rattle.gup_front.specs.Lines.{stuck_of}
use Rattle.gup_top.specs.Report.{HasRun, IsRunOf, HasMachine, IsToldRun, IsEnd, text_in}
use Rattle.gup_spec_trace.specs.Trace.{trace_text}
use Rattle.gup_top.specs.declared.command.Format.{Format}
use Rattle.gup_top.specs.declared.command.Format.TheVariants.{Answers, Trace}
use Rattle.gup_top.specs.Stuck.{IsFinishedRun, IsStuckRun, AreWaiting, stuck_lines, run_text}

-- an actor that has finished has no operation left, and one that hasn't has one

pub op_of_finished : (script : ScriptValue) (end : RunState) (a : ℕ) → has_finished script a (end.places a) ≡ true → op_in script end a ≡ None
op_of_finished script end a is =
    slice_get_past (ops_of script a) (end.places a).answered (leb-true (length (ops_of script a)) (end.places a).answered is)

unready_waits : (script : ScriptValue) (end : RunState) (a : ℕ) (o : Option Op) (w : Option Waiting) → op_in script end a ≡ o → waiting_in script end a ≡ w → has_finished script a (end.places a) ≡ false → is_ready o w ≡ false → (waiting : Waiting) × (waiting_in script end a ≡ Some waiting)
unready_waits script end a None w is waits left stays =
    let less = leb-false (length (ops_of script a)) (end.places a).answered left in
    absurd (none_there (ops_of script a) (end.places a).answered less is)
  where
    none_there : (ops : List Op) (k : ℕ) → k < length ops → slice_get ops k ≡ None → ⊥
    none_there [] k less none = omega arith
    none_there (op ∷ ops) zero less none = cc none
    none_there (op ∷ ops) (suc k) less none = none_there ops k (omega arith) none
unready_waits script end a (Some op) (Some waiting) is waits left stays = (waiting, waits)
unready_waits script end a (Some op) None is waits left stays = absurd (cc stays)

pub all_wait : (script : ScriptValue) (end : RunState) → ((a : ℕ) → a < length script.actors → can_go script end a ≡ false) → ((a : ℕ) (w : Waiting) → waiting_in script end a ≡ Some w → WaitsForBirthOrPin script w) → AreWaiting script end
all_wait script end stays named a below left =
    let found = unready_waits script end a (op_in script end a) (waiting_in script end a) refl refl left (stays a below) in
    (found.0, found.1, named a found.0 found.1)

-- who waits there waits for a process or for a pin
abbrev pub WaitsSo : ScriptValue → RunState → Type 0
WaitsSo s end = (a : ℕ) (waiting : Waiting) → waiting_in s end a ≡ Some waiting → WaitsForBirthOrPin s waiting

-- lines

pub names_process : (script : ScriptValue) (w : Waiting) → WaitsForBirthOrPin script w → NamesWaiting script w
names_process script w (inl process) = subst (λ (x : Waiting). NamesWaiting script x) (sym process.2) process.1
names_process script w (inr pin) = subst (λ (x : Waiting). NamesWaiting script x) (sym pin.2) pin.1

-- where all have finished there are none
none_stuck : (script : ScriptValue) (end : RunState) (n : ℕ) → n ≤ length script.actors → HaveFinished script end → stuck_lines script end n ≡ []
none_stuck script end zero most finished = refl
none_stuck script end (suc n) most finished =
    let before = none_stuck script end n (omega arith) finished in
    let done : op_in script end n ≡ None = op_of_finished script end n (finished n (omega arith)) in
    let waits : waiting_in script end n ≡ None = ap (λ o. waiting_with end.core (doer_of script n o) (end.places n).far o) done in
    ap (λ (l : List ℕ). l ++ stuck_of script n (waiting_in script end n)) before ∙ ap (stuck_of script n) waits

pub finished_text : (script : ScriptValue) (notes : List NoteValue) (end : RunState) → HaveFinished script end → run_text script notes end ≡ text_of script notes
finished_text script notes end finished =
    ap (λ (l : List ℕ). text_of script notes ++ l) (none_stuck script end (length script.actors) (omega arith) finished) ∙ append-nil (text_of script notes)

-- what was written of a script that has run, whatever the sink says of that
module _ (format : Format) (bytes : List ℕ) (script : ScriptValue) (notes : List NoteValue) (machine : Option MachineValue) (IsWritten : List ℕ → Type 0) where
  -- what is so of it is so whether actors are stuck or not
  abbrev pub IsWrittenRun : (stuck : Bool) → Type 0
  IsWrittenRun stuck = (text : List ℕ) × IsToldRun format bytes script stuck notes machine text × IsWritten text

  text_is : (f : Format) (stuck : Bool) → format ≡ f → (told : IsWrittenRun stuck) → told.0 ≡ text_in f bytes script notes told.1.0
  text_is f stuck is told = told.1.3 ∙ ap (λ (g : Format). text_in g bytes script notes told.1.0) is

  pub finished_written : format ≡ Answers → IsWrittenRun false → IsWritten (text_of script notes)
  finished_written is told = subst IsWritten (text_is Answers false is told ∙ finished_text script notes told.1.0 told.1.1.ends) told.2

  pub stuck_written : format ≡ Answers → IsWrittenRun true → (end : RunState) × IsCoreRun script notes end × IsWritten (run_text script notes end)
  stuck_written is told = (told.1.0, told.1.1.core, subst IsWritten (text_is Answers true is told) told.2)

  -- the trace of a run that was written
  traced : (stuck : Bool) → format ≡ Trace → IsWrittenRun stuck → IsWritten (trace_text bytes script notes)
  traced stuck is told = subst IsWritten (text_is Trace stuck is told) told.2

  finished_run : IsWrittenRun false → IsFinishedRun script notes
  finished_run told = (told.1.0, told.1.1.core, told.1.1.ends)

  stuck_run : IsWrittenRun true → IsStuckRun script notes
  stuck_run told = (told.1.0, told.1.1.core, told.1.1.ends, told.1.1.waits)

  -- by the status
  module _ (status : ℕ) (finished : status ≡ 0 → IsWrittenRun false) (stuck : status ≡ 4 → IsWrittenRun true) where
    pub has_run : HasRun status → (end : RunState) × IsRunOf script (status == 4) notes end × HasMachine machine script end
    has_run (inl zero_is) =
        let told = finished zero_is in (told.1.0, subst (λ (s : ℕ). IsRunOf script (s == 4) notes told.1.0) (sym zero_is) told.1.1, told.1.2)
    has_run (inr four_is) =
        let told = stuck four_is in (told.1.0, subst (λ (s : ℕ). IsRunOf script (s == 4) notes told.1.0) (sym four_is) told.1.1, told.1.2)

    pub traced_written : format ≡ Trace → HasRun status → IsWritten (trace_text bytes script notes)
    traced_written is (inl zero_is) = traced false is (finished zero_is)
    traced_written is (inr four_is) = traced true is (stuck four_is)

    -- the end of a run
    pub ended : HasRun status → IsEnd script status notes
    ended (inl zero_is) = let told = finished zero_is in inl (zero_is, finished_run told, told.1.1.lines refl)
    ended (inr four_is) = inr (inl (four_is, stuck_run (stuck four_is)))
