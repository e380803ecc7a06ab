-- What is said of the program's answer, for each way to it, from what is said of what was called there.
use Rattle.std.proofs.Common.{◌≡◌, ◌⊎◌, ℕ, List, [], Bool, true, false, Option, Some, None, inl, inr, refl, sym, subst, ◌∙◌, arith}
use Rattle.std.specs.Prelude.{IfSome, IsSome, ◌==◌}
use Rattle.std.specs.List.{All}
use Rattle.gup_plain.specs.Note.{NoteValue}
use Rattle.gup_script.specs.Script.{ScriptValue}
use Rattle.gup_spec_grammar.specs.Grammar.{Accepts}
use Rattle.gup_spec_grammar.specs.declared.fault.ScriptFault.{ScriptFault}
use Rattle.gup_spec_accepted.specs.Accepted.{Accepted}
use Rattle.gup_spec_check.specs.Verdicts.{IsFirstWrong}
use Rattle.gup_spec_trace.specs.Trace.{trace_text, IsTrace}
use Rattle.gup_spec_trace.specs.Written.{CanBeWritten}
use Rattle.gup_spec_turns.specs.Run.{RunState, IsCoreRun}
use Rattle.gup_lines.specs.Text.{text_of}
use Rattle.gup_io.specs.Faults.{HasCause, EndsInFault}
use Rattle.gup_io.specs.Transfers.{Loses}
use Rattle.gup_front.specs.Lines.{refusal_text}
use Rattle.gup_front.specs.Reading.{OfScript, OfText, IsScriptOf, IsRefusedFor, IsReadThrough}
use Rattle.gup_front.proofs.ReadBytes.{has_cause, of_script, are_script, of_none}
use Rattle.gup_check_front.specs.Judged.{HasJudged, IsCheckStatus}
use Rattle.gup_top.specs.Report.{RunsScript, IsChecked, IsMake, RunsLive, IsCommand, IsToldIn, HasRun, IsStatus, IsMadeStatus, IsRunOf, HasMachine, IsMadeRun, IsPartlyTold, IsEnd, usage}
use Rattle.gup_top.specs.Commands.{Outside, Takes, TakesPart, IsWell, IsScriptRead, IsRunReport, IsCheckReport, IsMakeReport, IsUsageReport, AreFaultsTold, IsRefusalTold, RanByWords, IsMachineTold, IsReport}
use Rattle.gup_top.specs.Stuck.{run_text}
use Rattle.gup_top.specs.declared.command.Format.{Format}
use Rattle.gup_top.specs.declared.command.Format.TheVariants.{Answers, Trace}
use Rattle.gup_top.specs.declared.serial.Report.{Report}
use Rattle.gup_top.proofs.Commands.{not_both, runs_told, one_format, one_number, checked_not_run, checked_not_made, live_not_run, live_not_checked, live_not_made}
use Rattle.gup_top.proofs.RunEnd.{IsWrittenRun, has_run, traced_written, finished_written, stuck_written, ended}
use Rattle.gup_top.proofs.Told.{of_text, are_bytes, none_told}

pub of_any : (told : Option (List ℕ)) (P : ScriptValue → Type 0) → ((script : ScriptValue) → P script) → OfScript told P
of_any None P each = tt
of_any (Some bytes) P each = λ script spelt. each script

pub if_none : (refusal : Option ScriptFault) (P : ScriptFault → Type 0) → refusal ≡ None → IfSome refusal P
if_none refusal P none = subst (λ (r : Option ScriptFault). IfSome r P) (sym none) tt

pub if_this : (refusal : Option ScriptFault) (P : ScriptFault → Type 0) (fault : ScriptFault) → refusal ≡ Some fault → P fault → IfSome refusal P
if_this refusal P fault is p = subst (λ (r : Option ScriptFault). IfSome r P) (sym is) p

pub if_any : (refusal : Option ScriptFault) (P : Type 0) → P → IfSome refusal (λ fault. P)
if_any None P p = tt
if_any (Some fault) P p = p

-- what is so of a report with this status and this refusal
same_report : (P : Report → Type 0) (report : Report) (status : ℕ) (refusal : Option ScriptFault)
    → report.status ≡ status → report.refusal ≡ refusal → P (record report { status = status; refusal = refusal }) → P report
same_report P report status refusal is same p =
    let Q : ℕ → Type 0 = λ s. P (record report { status = s; refusal = refusal }) in
    let R : Option ScriptFault → Type 0 = λ r. P (record report { refusal = r }) in
    subst R (sym same) (subst Q (sym is) p)

-- the script that was read has run, and its text was taken
abbrev pub IsWritten : Format → (bytes : List ℕ) → ScriptValue → (before after : Outside) → Report → (stuck : Bool) → Type 0
IsWritten format bytes script before after report stuck =
    IsWrittenRun format bytes script report.journal.notes report.machine (Takes before after) stuck

-- no script was run by these words
pub no_machine : (words : List (List ℕ)) (report : Report) → report.machine ≡ None → (RanByWords words report → ⊥) → IsMachineTold words report
no_machine words report unmade other = record { there = λ ran. absurd (other ran); none = λ no_run. unmade }

module _ (words : List (List ℕ)) (before after : Outside) (report : Report) (unlive : report.live ≡ None) where
  -- ---- by what was asked

  of_run : RunsScript words → (report.status ≡ 2 → ⊥) → IsRunReport words before after report
      → AreFaultsTold before after report.status → IsRefusalTold before after report → IsMachineTold words report → IsReport words before after report
  of_run asked other told faults refusal machine =
      record {
        runs = λ runs. told;
        lives = λ live. absurd (live_not_run words live asked);
        checks = λ checked. absurd (checked_not_run words checked asked);
        makes = λ n made. absurd (not_both words n asked made);
        usage = λ none. absurd (none (inl (inl asked)));
        command = λ two. absurd (other two);
        live = λ other. unlive;
        faults = faults;
        refusal = refusal;
        machine = machine;
      }

  of_check : IsChecked words → IsCheckReport before after report
      → AreFaultsTold before after report.status → IsRefusalTold before after report → IsMachineTold words report → IsReport words before after report
  of_check asked told faults refusal machine =
      record {
        runs = λ runs. absurd (checked_not_run words asked runs);
        lives = λ live. absurd (live_not_checked words live asked);
        checks = λ checked. told;
        makes = λ n made. absurd (checked_not_made words n asked made);
        usage = λ none. absurd (none (inl (inr (inl asked))));
        command = λ two. absurd (omega (arith, told.statuses));
        live = λ other. unlive;
        faults = faults;
        refusal = refusal;
        machine = machine;
      }

  of_make : (n : ℕ) → IsMake words n → IsMakeReport n before after report
      → AreFaultsTold before after report.status → IsRefusalTold before after report → IsMachineTold words report → IsReport words before after report
  of_make n asked told faults refusal machine =
      record {
        runs = λ runs. absurd (not_both words n runs asked);
        lives = λ live. absurd (live_not_made words n live asked);
        checks = λ checked. absurd (checked_not_made words n checked asked);
        makes = λ m made. subst (λ (k : ℕ). IsMakeReport k before after report) (one_number words n m asked made) told;
        usage = λ none. absurd (none (inl (inr (inr (n, asked)))));
        command = λ two. absurd (omega (arith, told.statuses));
        live = λ other. unlive;
        faults = faults;
        refusal = refusal;
        machine = machine;
      }

  of_usage : (IsCommand words → ⊥) → IsUsageReport before after report
      → AreFaultsTold before after report.status → IsRefusalTold before after report → IsMachineTold words report → IsReport words before after report
  of_usage none told faults refusal machine =
      record {
        runs = λ runs. absurd (none (inl (inl runs)));
        lives = λ live. absurd (none (inr live));
        checks = λ checked. absurd (none (inl (inr (inl checked))));
        makes = λ n made. absurd (none (inl (inr (inr (n, made)))));
        usage = λ no_command. told;
        command = λ two. none;
        live = λ other. unlive;
        faults = faults;
        refusal = refusal;
        machine = machine;
      }

  -- ---- faults and refusals

  -- what is said of a text that was written, in part or whole
  abbrev IsFaultTold : Type 0
  IsFaultTold = report.status ≡ 6 → EndsInFault before.write_faults after.write_faults after.write_faulted

  abbrev IsUncounted : Type 0
  IsUncounted = (report.status ≡ 6 → ⊥) → after.write_faults ≡ before.write_faults

  -- no read has failed
  well_read : (report.status ≡ 5 → ⊥) → after.read_faults ≡ before.read_faults → IsFaultTold → IsUncounted
      → AreFaultsTold before after report.status
  well_read other uncounted write no_write =
      record { read = λ five. absurd (other five); no_read = λ well. uncounted; write = write; no_write = no_write }

  -- no text was refused
  unrefused : report.refusal ≡ None → (report.status ≡ 3 → ⊥)
      → ((report.status ≡ 2) ⊎ (report.status ≡ 3) ⊎ (report.status ≡ 5) ⊎ (report.status ≡ 7) → report.journal.notes ≡ [])
      → IsRefusalTold before after report
  unrefused none other unrun =
      record {
        there = λ three. absurd (other three);
        text = λ three. absurd (other three);
        part = λ six. if_none report.refusal (λ fault. TakesPart before after (refusal_text fault)) none;
        none = λ has. none;
        refused_unrun = if_none report.refusal (λ fault. report.journal.notes ≡ []) none;
        unrun = unrun;
      }

  -- a text was refused for this fault
  refused_for : (fault : ScriptFault) → report.refusal ≡ Some fault → (report.status ≡ 3) ⊎ (report.status ≡ 6) ⊎ (report.status ≡ 7)
      → report.journal.notes ≡ [] → (report.status ≡ 3 → Takes before after (refusal_text fault))
      → (report.status ≡ 6 → TakesPart before after (refusal_text fault)) → IsRefusalTold before after report
  refused_for fault is statuses unrun text part =
      record {
        there = λ three. subst (λ (r : Option ScriptFault). IsSome r) (sym is) refl;
        text = λ three. if_this report.refusal (λ f. Takes before after (refusal_text f)) fault is (text three);
        part = λ six. if_this report.refusal (λ f. TakesPart before after (refusal_text f)) fault is (part six);
        none = λ has. absurd (omega arith);
        refused_unrun = if_any report.refusal (report.journal.notes ≡ []) unrun;
        unrun = λ has. unrun;
      }

  -- the check has refused a text, or none
  check_refused : IsCheckStatus report.status → report.journal.notes ≡ [] → (report.status ≡ 3 → IsSome report.refusal)
      → (report.status ≡ 3 → IfSome report.refusal (λ fault. Takes before after (refusal_text fault)))
      → (report.status ≡ 6 → IfSome report.refusal (λ fault. TakesPart before after (refusal_text fault)))
      → (HasJudged report.status ⊎ (report.status ≡ 5) → report.refusal ≡ None) → IsRefusalTold before after report
  check_refused statuses unrun there text part none =
      record {
        there = there;
        text = text;
        part = part;
        none = λ has. none (grind arith);
        refused_unrun = if_any report.refusal (report.journal.notes ≡ []) unrun;
        unrun = λ has. unrun;
      }

  -- where none of these is so, no script was run
  by_status : RanByWords words report → (HasRun report.status → ⊥) → (report.status ≡ 6 → report.refusal ≡ None → ⊥) → ⊥
  by_status (runs, inl has) other failed = other has
  by_status (runs, inr (six, unrefused)) other failed = failed six unrefused

  -- one was, unless memory ran out
  ran_machine : RunsScript words → HasRun report.status ⊎ (report.status ≡ 6) ⊎ (report.status ≡ 7) → report.refusal ≡ None
      → (HasRun report.status ⊎ (report.status ≡ 6) → IsSome report.machine) → (report.status ≡ 7 → report.machine ≡ None)
      → IsMachineTold words report
  ran_machine asked statuses none machine unmade = record { there = there; none = unran }
    where
      there : RanByWords words report → IsSome report.machine
      there (runs, inl has) = machine (inl has)
      there (runs, inr (six, unrefused)) = machine (inr six)

      unran : (RanByWords words report → ⊥) → report.machine ≡ None
      unran other = elim statuses [
        | inl has ↦ absurd (other (asked, inl has))
        | inr rest ↦ elim rest [ inl six ↦ absurd (other (asked, inr (six, none))) | inr seven ↦ unmade seven ]
      ]

  -- no script has run
  unrun_report : IsStatus report.status → (HasRun report.status → ⊥)
      → (IsWell before after → OfScript before.left (λ script. IsEnd script report.status report.journal.notes))
      → (report.status ≡ 3 → OfScript before.left (λ script. ⊥)) → IfSome report.refusal (IsRefusedFor before.left)
      → Loses 0 1048577 before.left after.left
      → ((report.status ≡ 5 → ⊥) → (report.status ≡ 7 → ⊥) → IsReadThrough before.left after.left)
      → (report.status ≡ 6 → OfScript before.left (λ script. ⊥)) → (report.status ≡ 6 → IsSome report.refusal)
      → IsRunReport words before after report
  unrun_report statuses other complete refused refusal reading read_through none some =
      let P : Format → List ℕ → ScriptValue → Type 0 =
      λ format bytes script. IsPartlyTold format bytes script report.journal.notes report.machine before.taken after.taken in
      record {
        statuses = statuses;
        script = λ has. absurd (other has);
        ran = λ has. absurd (other has);
        text = λ asked zero_is. absurd (other (inl zero_is));
        stuck_text = λ asked four_is. absurd (other (inr four_is));
        trace = λ asked has. absurd (other has);
        read_again = λ asked has. absurd (other has);
        never_wrong = λ has. absurd (other has);
        complete = complete;
        read = record { refused = refused; refusal = refusal; reading = reading; read_through = read_through };
        text_part = λ format asked six. none_told before.left (P format) (none six);
        refused_or_ran = λ format asked six. inl (some six);
      }

  -- ---- the ways

  -- the words were no command
  pub usage_report : report.machine ≡ None → (IsCommand words → ⊥) → (report.status ≡ 2) ⊎ (report.status ≡ 6) → report.refusal ≡ None → report.journal.notes ≡ []
      → (report.status ≡ 2 → Takes before after usage) → (report.status ≡ 6 → TakesPart before after usage)
      → after.read_faults ≡ before.read_faults → IsFaultTold → IsUncounted → IsReport words before after report
  usage_report unmade asked statuses none notes text part unread write no_write =
      of_usage asked (record { statuses = statuses; text = text; part = part; no_refusal = none; unrun = notes })
      (well_read (λ five. omega arith) unread write no_write)
      (unrefused none (λ three. omega arith) (λ has. notes))
      (no_machine words report unmade (λ ran. asked (inl (inl ran.0))))

  -- a script was made
  pub make_report : report.machine ≡ None → (n : ℕ) → IsMake words n → IsMadeStatus report.status → report.refusal ≡ None → report.journal.notes ≡ []
      → (report.status ≡ 0 → (text : List ℕ) × IsMadeRun n false text × Takes before after text)
      → (report.status ≡ 4 → (text : List ℕ) × IsMadeRun n true text × Takes before after text)
      → (report.status ≡ 6 → (stuck : Bool) × (text : List ℕ) × IsMadeRun n stuck text × TakesPart before after text)
      → after.read_faults ≡ before.read_faults → IsFaultTold → IsUncounted → IsReport words before after report
  make_report unmade n asked statuses none notes made stuck part unread write no_write =
      of_make n asked
      (record { statuses = statuses; made = made; stuck = stuck; part = part; complete = complete; no_refusal = none; unrun = notes })
      (well_read (λ five. omega arith) unread write no_write)
      (unrefused none (λ three. omega arith) (λ has. notes))
      (no_machine words report unmade (λ ran. not_both words n ran.0 asked))
    where
      complete : (HasCause before.write_faults after.write_faults → ⊥) → HasRun report.status ⊎ (report.status ≡ 7)
      complete well = elim statuses [
        | inl has ↦ inl has
        | inr rest ↦ elim rest [ inl six ↦ absurd (well (has_cause _ _ _ (write six))) | inr seven ↦ inr seven ]
      ]

  -- a read failed
  pub failed_report : report.machine ≡ None → RunsScript words → report.status ≡ 5 → report.refusal ≡ None → report.journal.notes ≡ []
      → Loses 0 1048577 before.left after.left → EndsInFault before.read_faults after.read_faults after.read_faulted
      → after.write_faults ≡ before.write_faults → IsReport words before after report
  failed_report unmade asked five none notes reading fault unwritten =
      of_run asked (λ two. omega arith)
      (unrun_report (inr (inr (inr (inr (inl five))))) (λ has. omega arith) (λ well. absurd (well.0 (has_cause _ _ _ fault)))
      (λ three. absurd (omega arith)) (if_none report.refusal (IsRefusedFor before.left) none) reading (λ other. absurd (other five))
      (λ six. absurd (omega arith)) (λ six. absurd (omega arith)))
      (record { read = λ is. fault; no_read = λ other. absurd (other five); write = λ six. absurd (omega arith); no_write = λ well. unwritten })
      (unrefused none (λ three. omega arith) (λ has. notes))
      (no_machine words report unmade (λ ran. by_status ran (λ has. omega (arith, five, has)) (λ six unrefused. omega (arith, five, six))))

  -- memory ran out
  pub memory_report : report.machine ≡ None → RunsScript words → report.status ≡ 7 → report.refusal ≡ None → report.journal.notes ≡ []
      → Loses 0 1048577 before.left after.left → after.read_faults ≡ before.read_faults → after.write_faults ≡ before.write_faults
      → IsReport words before after report
  memory_report unmade asked seven none notes reading uncounted unwritten =
      of_run asked (λ two. omega arith)
      (unrun_report (inr (inr (inr (inr (inr (inr seven)))))) (λ has. omega arith)
      (λ well. of_any before.left (λ script. IsEnd script report.status report.journal.notes) (λ script. inr (inr seven)))
      (λ three. absurd (omega arith)) (if_none report.refusal (IsRefusedFor before.left) none) reading (λ five other. absurd (other seven))
      (λ six. absurd (omega arith)) (λ six. absurd (omega arith)))
      (well_read (λ five. omega arith) uncounted (λ six. absurd (omega arith)) (λ well. unwritten))
      (unrefused none (λ three. omega arith) (λ has. notes))
      (no_machine words report unmade (λ ran. by_status ran (λ has. omega (arith, seven, has)) (λ six unrefused. omega (arith, seven, six))))

  -- a script was refused
  pub refused_report : report.machine ≡ None → (fault : ScriptFault) → report.refusal ≡ Some fault → RunsScript words
      → OfScript before.left (λ script. ⊥) → IsRefusedFor before.left fault
      → Loses 0 1048577 before.left after.left → IsReadThrough before.left after.left → after.read_faults ≡ before.read_faults
      → (report.status ≡ 3) ⊎ (report.status ≡ 6) ⊎ (report.status ≡ 7) → report.journal.notes ≡ []
      → (report.status ≡ 3 → Takes before after (refusal_text fault)) → (report.status ≡ 6 → TakesPart before after (refusal_text fault))
      → IsFaultTold → IsUncounted → IsReport words before after report
  refused_report unmade fault is asked none why reading read_through uncounted statuses notes text part write no_write =
      of_run asked (λ two. omega arith)
      (unrun_report (grind arith) (λ has. omega arith)
      (λ well. of_none before.left (λ script. IsEnd script report.status report.journal.notes) none)
      (λ three. none) (if_this report.refusal (IsRefusedFor before.left) fault is why) reading (λ five seven. read_through)
      (λ six. none) (λ six. subst (λ (r : Option ScriptFault). IsSome r) (sym is) refl))
      (well_read (λ five. omega arith) uncounted write no_write)
      (refused_for fault is statuses notes text part)
      (no_machine words report unmade (λ ran. by_status ran (λ has. omega (arith, statuses, has)) (λ six unrefused. let e = sym is ∙ unrefused in absurd (cc e))))

  -- a script ran
  module _ (format : Format) (bytes : List ℕ) (script : ScriptValue) (asked : IsToldIn words format)
      (one : (text : List ℕ) (a b : ScriptValue) → Accepts text a → Accepts text b → a ≡ b)
      (accepted : Accepts bytes script) (spelt : IfSome before.left (λ b. bytes ≡ b)) (read : IsScriptOf before.left script)
      (finished : report.status ≡ 0 → IsWritten format bytes script before after report false)
      (stuck : report.status ≡ 4 → IsWritten format bytes script before after report true) where
    ran : HasRun report.status → (end : RunState) × IsRunOf script (report.status == 4) report.journal.notes end × HasMachine report.machine script end
    ran = has_run format bytes script report.journal.notes report.machine (Takes before after) report.status finished stuck

    complete : HasRun report.status ⊎ (report.status ≡ 6) ⊎ (report.status ≡ 7) → IsFaultTold → IsWell before after
        → IsEnd script report.status report.journal.notes
    complete (inl has) write well = ended format bytes script report.journal.notes report.machine (Takes before after) report.status finished stuck has
    complete (inr (inl six)) write well = absurd (well.1 (has_cause _ _ _ (write six)))
    complete (inr (inr seven)) write well = inr (inr seven)

    of_read : (P : ScriptValue → Type 0) → P script → OfScript before.left P
    of_read P p = of_script before.left script P one read p

    of_bytes : (P : List ℕ → ScriptValue → Type 0) → P bytes script → OfText before.left P
    of_bytes P p = of_text before.left bytes script P one spelt accepted p

    same : (f : Format) → IsToldIn words f → format ≡ f
    same f told = one_format words format f asked told

    abbrev IsPart : Format → List ℕ → ScriptValue → Type 0
    IsPart f b s = IsPartlyTold f b s report.journal.notes report.machine before.taken after.taken

    in_format : (f : Format) → IsToldIn words f → IsPart format bytes script → IsPart f bytes script
    in_format f told part = subst (λ (g : Format). IsPart g bytes script) (same f told) part

    pub run_report : ((s : ScriptValue) (notes : List NoteValue) (n : ℕ) → Accepted s notes → IsFirstWrong s notes n → ⊥)
        → Loses 0 1048577 before.left after.left → IsReadThrough before.left after.left → after.read_faults ≡ before.read_faults
        → HasRun report.status ⊎ (report.status ≡ 6) ⊎ (report.status ≡ 7) → report.refusal ≡ None
        → (HasRun report.status ⊎ (report.status ≡ 6) → IsSome report.machine) → (report.status ≡ 7 → report.machine ≡ None)
        → (report.status ≡ 7 → report.journal.notes ≡ [])
        → (format ≡ Trace → HasRun report.status → All (CanBeWritten script) report.journal.notes)
        → (report.status ≡ 6 → IsPart format bytes script) → IsFaultTold → IsUncounted → IsReport words before after report
    run_report right reading read_through uncounted statuses none machine unmade unran writable part write no_write =
        let notes : List NoteValue = report.journal.notes in
        let W : List ℕ → Type 0 = Takes before after in
        of_run (runs_told words format asked) (λ two. omega arith)
        (
        record {
          statuses = grind arith;
          script = λ has. are_script before.left script read;
          ran = λ has. of_read (λ s. (end : RunState) × IsRunOf s (report.status == 4) notes end × HasMachine report.machine s end) (ran has);
          text = λ told zero_is. of_read (λ s. W (text_of s notes)) (finished_written format bytes script notes report.machine W (same Answers told) (finished zero_is));
          stuck_text =
              λ told four_is. of_read (λ s. (end : RunState) × IsCoreRun s notes end × W (run_text s notes end)) (stuck_written format bytes script notes report.machine W (same Answers told) (stuck four_is));
          trace =
              λ told has. of_bytes (λ b s. W (trace_text b s notes)) (traced_written format bytes script notes report.machine W report.status finished stuck (same Trace told) has);
          read_again = λ told has. of_bytes (λ b s. IsTrace (trace_text b s notes) s notes) (bytes, refl, accepted, writable (same Trace told) has);
          never_wrong = λ has. of_read (λ s. (n : ℕ) → IsFirstWrong s notes n → ⊥) (λ n. right script notes n (ran has).1.accepted);
          complete = λ well. of_read (λ s. IsEnd s report.status notes) (complete statuses write well);
          read =
              record {
                refused = λ three. absurd (omega arith);
                refusal = if_none report.refusal (IsRefusedFor before.left) none;
                reading = reading;
                read_through = λ five seven. read_through;
              };
          text_part = λ f told six. of_bytes (IsPart f) (in_format f told (part six));
          refused_or_ran = λ f told six. inr (bytes, script, are_bytes before.left bytes spelt, accepted, in_format f told (part six));
        }
        )
        (well_read (λ five. omega arith) uncounted write no_write)
        (unrefused none (λ three. omega arith) (λ has. unran (omega arith)))
        (ran_machine (runs_told words format asked) statuses none machine unmade)

-- a trace was read, or refused
pub check_report : (words : List (List ℕ)) (before after : Outside) (report : Report) (unlive : report.live ≡ None) (unmade : report.machine ≡ None) (status : ℕ) (refusal : Option ScriptFault)
    → report.status ≡ status → report.refusal ≡ refusal → IsChecked words
    → IsCheckReport before after (record report { status = status; refusal = refusal }) → AreFaultsTold before after status
    → (status ≡ 3 → IsSome refusal) → (status ≡ 3 → IfSome refusal (λ fault. Takes before after (refusal_text fault)))
    → (status ≡ 6 → IfSome refusal (λ fault. TakesPart before after (refusal_text fault)))
    → (HasJudged status ⊎ (status ≡ 5) → refusal ≡ None) → IsReport words before after report
check_report words before after report unlive unmade status refusal is same asked told faults there text part none =
    let judged : Report = record report { status = status; refusal = refusal } in
    same_report (IsReport words before after) report status refusal is same
    (of_check words before after judged unlive asked told faults
    (check_refused words before after judged unlive told.statuses told.unrun there text part none)
    (no_machine words judged unmade (λ ran. checked_not_run words asked ran.0)))
