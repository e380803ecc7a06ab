-- What each command does: what the program answers, by what it was asked, and what has become of the outside meanwhile.
use Rattle.std.specs.Prelude.{◌≡◌, ℕ, ◌==◌, ◌⊎◌, Bool, true, false, List, [], Option, None, IsSome, IfSome}
use Rattle.std.specs.Io.KnownBytes.{Appends}
use Rattle.gup_io.specs.Transfers.{Loses, AppendsPart}
use Rattle.gup_io.specs.Faults.{HasCause, EndsInFault}
use Rattle.gup_front.specs.Reading.{OfScript, OfText, AreScript, AreBytes, IsRefusedFor, IsReadThrough}
use Rattle.gup_front.specs.Lines.{refusal_text}
use Rattle.gup_script.specs.Script.{ScriptValue}
use Rattle.gup_spec_grammar.specs.Grammar.{Accepts}
use Rattle.gup_spec_turns.specs.Run.{RunState, IsCoreRun}
use Rattle.gup_lines.specs.Text.{text_of}
use Rattle.gup_spec_trace.specs.Trace.{trace_text, IsTrace}
use Rattle.gup_spec_check.specs.Verdicts.{IsFirstWrong}
use Rattle.gup_check_front.specs.Reading.{OfTrace, AreTrace, IsNoTraceFor, IsTraceReadThrough}
use Rattle.gup_check_front.specs.Judged.{IsCheckStatus, HasJudged, IsJudgedIn, IsPartlyJudged, IsReadAndJudged}
use Rattle.gup_top.specs.Stuck.{run_text}
use Rattle.gup_top.specs.LiveRun.{IsLiveTold}
use Rattle.gup_top.specs.declared.command.Format.{Format}
use Rattle.gup_top.specs.declared.serial.Report.{Report}
use Rattle.gup_top.specs.Report.{IsRun, IsTraced, RunsScript, IsToldIn, IsChecked, IsMake, IsLiveIn, RunsLive, IsCommand}
use Rattle.gup_top.specs.Report.{HasRun, IsStatus, IsMadeStatus, IsRunOf, HasMachine, IsMadeRun, IsPartlyTold, IsEnd, usage}

-- ---- the outside

-- What the outside has told at a moment: the bytes that the source has left, where it tells them, the reads that have failed, and whether
-- the last one has; and the same of the sink, with the bytes that it has taken.
pub record Outside : Type 0 where
  pub left : Option (List ℕ)
  pub read_faults : ℕ
  pub read_faulted : Bool
  pub taken : Option (List ℕ)
  pub write_faults : ℕ
  pub write_faulted : Bool

abbrev pub outside : (left : Option (List ℕ)) (read_faults : ℕ) (read_faulted : Bool)
    (taken : Option (List ℕ)) (write_faults : ℕ) (write_faulted : Bool) → Outside
outside left read_faults read_faulted taken write_faults write_faulted =
    record {
      left = left;
      read_faults = read_faults;
      read_faulted = read_faulted;
      taken = taken;
      write_faults = write_faults;
      write_faulted = write_faulted;
    }

-- what the sink has taken meanwhile is this text, and nothing else
abbrev pub Takes : (before after : Outside) → (text : List ℕ) → Type 0
Takes before after text = Appends before.taken after.taken text

-- it is a prefix of the text, and not all of it
abbrev pub TakesPart : (before after : Outside) → (text : List ℕ) → Type 0
TakesPart before after text = AppendsPart before.taken after.taken text

-- neither a read nor a write has failed meanwhile
abbrev pub IsWell : (before after : Outside) → Type 0
IsWell before after =
    (HasCause before.read_faults after.read_faults → ⊥) × (HasCause before.write_faults after.write_faults → ⊥)

-- ---- the commands

-- A command that reads a script. Status 3 comes only where the bytes are none, and for their first fault. The source is read to its end, to its
-- first fault, or until one byte more than a script may have was given.
pub record IsScriptRead (before after : Outside) (report : Report) : Type 0 where
  pub refused : report.status ≡ 3 → OfScript before.left (λ script. ⊥)
  pub refusal : IfSome report.refusal (IsRefusedFor before.left)
  pub reading : Loses 0 1048577 before.left after.left
  pub read_through : (report.status ≡ 5 → ⊥) → (report.status ≡ 7 → ⊥) → IsReadThrough before.left after.left

-- `run` and `trace`.
pub record IsRunReport (words : List (List ℕ)) (before after : Outside) (report : Report) : Type 0 where
  pub statuses : IsStatus report.status
  -- The headline: where the source tells its bytes, they are a script, and the journal is that of its core run, which follows the
  -- script in its order, is plain and thorough, refuses with cause, and all else that is said of a run; at status 0 each actor has
  -- finished, and at status 4 actors have operations left, and each of these waits for a process or for a pin. The machine is the one
  -- at the end of that run.
  pub script : HasRun report.status → AreScript before.left
  pub ran : HasRun report.status → OfScript before.left
      (λ script. (end : RunState) × IsRunOf script (report.status == 4) report.journal.notes end × HasMachine report.machine script end)
  -- What the sink took is the text of the journal, behind it at status 4 the actors that are stuck at its end, or the trace, which is one
  -- of this script and journal; and nothing else.
  pub text : IsRun words → report.status ≡ 0 → OfScript before.left (λ script. Takes before after (text_of script report.journal.notes))
  pub stuck_text : IsRun words → report.status ≡ 4 → OfScript before.left
      (λ script. (end : RunState) × IsCoreRun script report.journal.notes end × Takes before after (run_text script report.journal.notes end))
  pub trace : IsTraced words → HasRun report.status → OfText before.left
      (λ bytes script. Takes before after (trace_text bytes script report.journal.notes))
  pub read_again : IsTraced words → HasRun report.status → OfText before.left
      (λ bytes script. IsTrace (trace_text bytes script report.journal.notes) script report.journal.notes)
  -- the trace of a run is never answered with `no`
  pub never_wrong : HasRun report.status → OfScript before.left (λ script. (n : ℕ) → IsFirstWrong script report.journal.notes n → ⊥)
  -- bytes that are a script are run, where neither the source nor the sink fails, unless memory runs out
  pub complete : IsWell before after → OfScript before.left (λ script. IsEnd script report.status report.journal.notes)
  pub read : IsScriptRead before after report
  -- at status 6 the sink took a prefix of the text of the run, if no script was refused; the journal and the machine are that run's
  pub text_part : (format : Format) → IsToldIn words format → report.status ≡ 6 → OfText before.left
      (λ bytes script. IsPartlyTold format bytes script report.journal.notes report.machine before.taken after.taken)
  pub refused_or_ran : (format : Format) → IsToldIn words format → report.status ≡ 6 → IsSome report.refusal
      ⊎ ((bytes : List ℕ) × (script : ScriptValue) × AreBytes before.left bytes × Accepts bytes script
      × IsPartlyTold format bytes script report.journal.notes report.machine before.taken after.taken)

-- `live` and `live trace`: the actors of the script run on threads of their own. What is said here is so if they come to an end; actors that are
-- stuck never do, so there is no status 4.
pub record IsLiveReport (words : List (List ℕ)) (before after : Outside) (report : Report) : Type 0 where
  pub statuses : (report.status ≡ 0) ⊎ (report.status ≡ 3) ⊎ (report.status ≡ 5) ⊎ (report.status ≡ 6) ⊎ (report.status ≡ 7)
  -- The headline, of the order that the threads have found: where the source tells its bytes, they are a script, all its actors have taken their
  -- turns in that order, whose journal follows the script, is plain and thorough, and refuses with cause; and what the sink took are the answers
  -- of that journal, actor by actor, or its trace, and nothing else. The report has the order, the journal and the answers.
  pub script : report.status ≡ 0 → AreScript before.left
  pub told : (format : Format) → IsLiveIn words format → report.status ≡ 0 → OfText before.left
      (λ bytes script. IsLiveTold format bytes script report.live (Takes before after))
  -- bytes that are a script are run, where neither the source nor the sink fails, unless memory runs out
  pub complete : IsWell before after → OfScript before.left (λ script. (report.status ≡ 0) ⊎ (report.status ≡ 7))
  pub read : IsScriptRead before after report
  -- at status 6 the sink took a prefix of the text of the run, if no script was refused
  pub text_part : (format : Format) → IsLiveIn words format → report.status ≡ 6 → OfText before.left
      (λ bytes script. IsLiveTold format bytes script report.live (TakesPart before after))
  pub refused_or_ran : (format : Format) → IsLiveIn words format → report.status ≡ 6 → IsSome report.refusal
      ⊎ ((bytes : List ℕ) × (script : ScriptValue) × AreBytes before.left bytes × Accepts bytes script
      × IsLiveTold format bytes script report.live (TakesPart before after))
  pub unrun : report.journal.notes ≡ []
  pub none : (report.status ≡ 3) ⊎ (report.status ≡ 5) ⊎ (report.status ≡ 7) → report.live ≡ None

-- `check`: the trace that the source has is judged, as gup_check_front says.
pub record IsCheckReport (before after : Outside) (report : Report) : Type 0 where
  pub statuses : IsCheckStatus report.status
  -- Where the source tells its bytes, they are a trace, and what the sink took is the line of its verdict, and nothing else. That is
  -- `no n`, at status 8, exactly where the notes before number n are accepted and with that one aren't, `yes` exactly where all are accepted and
  -- each operation has ended, and else `open`.
  pub trace : HasJudged report.status → AreTrace before.left
  pub verdict : HasJudged report.status → OfTrace before.left (IsJudgedIn report.status before.taken after.taken)
  pub complete : IsWell before after → OfTrace before.left (λ script notes. HasJudged report.status ⊎ (report.status ≡ 7))
  pub refused : report.status ≡ 3 → OfTrace before.left (λ script notes. ⊥)
  pub refusal : IfSome report.refusal (IsNoTraceFor before.left)
  pub reading : Loses 0 67108865 before.left after.left
  pub read_through : (report.status ≡ 5 → ⊥) → (report.status ≡ 7 → ⊥) → IsTraceReadThrough before.left after.left
  pub verdict_part : report.status ≡ 6 → OfTrace before.left (IsPartlyJudged before.taken after.taken)
  pub refused_or_judged : report.status ≡ 6 → IsSome report.refusal ⊎ IsReadAndJudged before.left before.taken after.taken
  pub no_refusal : HasJudged report.status → report.refusal ≡ None
  pub unrun : report.journal.notes ≡ []

-- `make N`: the script that is made from N runs, and all that is said of a script that has run is so of it. What the sink took is the
-- summary of that run and, at status 4, the actors that are stuck at its end. No script is refused.
pub record IsMakeReport (n : ℕ) (before after : Outside) (report : Report) : Type 0 where
  pub statuses : IsMadeStatus report.status
  pub made : report.status ≡ 0 → (text : List ℕ) × IsMadeRun n false text × Takes before after text
  pub stuck : report.status ≡ 4 → (text : List ℕ) × IsMadeRun n true text × Takes before after text
  pub part : report.status ≡ 6 → (stuck : Bool) × (text : List ℕ) × IsMadeRun n stuck text × TakesPart before after text
  pub complete : (HasCause before.write_faults after.write_faults → ⊥) → HasRun report.status ⊎ (report.status ≡ 7)
  pub no_refusal : report.refusal ≡ None
  pub unrun : report.journal.notes ≡ []

-- Words that are no command: the program says how it is called.
pub record IsUsageReport (before after : Outside) (report : Report) : Type 0 where
  pub statuses : (report.status ≡ 2) ⊎ (report.status ≡ 6)
  pub text : report.status ≡ 2 → Takes before after usage
  pub part : report.status ≡ 6 → TakesPart before after usage
  pub no_refusal : report.refusal ≡ None
  pub unrun : report.journal.notes ≡ []

-- ---- all of them

-- Status 5 comes exactly where a read failed, and 6 exactly where a write failed, in place of 0, 2, 3, 4 and 8. One failed, and it was the
-- last.
pub record AreFaultsTold (before after : Outside) (status : ℕ) : Type 0 where
  pub read : status ≡ 5 → EndsInFault before.read_faults after.read_faults after.read_faulted
  pub no_read : (status ≡ 5 → ⊥) → after.read_faults ≡ before.read_faults
  pub write : status ≡ 6 → EndsInFault before.write_faults after.write_faults after.write_faulted
  pub no_write : (status ≡ 6 → ⊥) → after.write_faults ≡ before.write_faults

-- A refusal is there exactly where a text was refused, and at status 3 what the sink took is its line. A journal is there only where a
-- script ran.
pub record IsRefusalTold (before after : Outside) (report : Report) : Type 0 where
  pub there : report.status ≡ 3 → IsSome report.refusal
  pub text : report.status ≡ 3 → IfSome report.refusal (λ fault. Takes before after (refusal_text fault))
  pub part : report.status ≡ 6 → IfSome report.refusal (λ fault. TakesPart before after (refusal_text fault))
  pub none : HasRun report.status ⊎ (report.status ≡ 2) ⊎ (report.status ≡ 5) → report.refusal ≡ None
  pub refused_unrun : IfSome report.refusal (λ fault. report.journal.notes ≡ [])
  pub unrun : (report.status ≡ 2) ⊎ (report.status ≡ 3) ⊎ (report.status ≡ 5) ⊎ (report.status ≡ 7) → report.journal.notes ≡ []

-- a script was run by `run` or `trace`, and its text was taken, or a write failed
abbrev pub RanByWords : (words : List (List ℕ)) → Report → Type 0
RanByWords words report = RunsScript words × (HasRun report.status ⊎ ((report.status ≡ 6) × (report.refusal ≡ None)))

-- A machine is there exactly where a script was run so.
pub record IsMachineTold (words : List (List ℕ)) (report : Report) : Type 0 where
  pub there : RanByWords words report → IsSome report.machine
  pub none : (RanByWords words report → ⊥) → report.machine ≡ None

-- What the words ask is what is done. Status 2 comes exactly where they are no command, unless the sink fails.
pub record IsReport (words : List (List ℕ)) (before after : Outside) (report : Report) : Type 0 where
  pub runs : RunsScript words → IsRunReport words before after report
  pub lives : RunsLive words → IsLiveReport words before after report
  pub checks : IsChecked words → IsCheckReport before after report
  pub makes : (n : ℕ) → IsMake words n → IsMakeReport n before after report
  pub usage : (IsCommand words → ⊥) → IsUsageReport before after report
  pub command : report.status ≡ 2 → IsCommand words → ⊥
  pub live : (RunsLive words → ⊥) → report.live ≡ None
  pub faults : AreFaultsTold before after report.status
  pub refusal : IsRefusalTold before after report
  pub machine : IsMachineTold words report
