-- What is said of the answer of `live`, for each way to it, from what is said of what was called there.
use Rattle.std.proofs.Common.{◌≡◌, ◌⊎◌, ℕ, List, [], Option, Some, None, inl, inr, refl, sym, subst, arith}
use Rattle.std.specs.Prelude.{IfSome, IsSome}
use Rattle.gup_script.specs.Script.{ScriptValue}
use Rattle.gup_spec_grammar.specs.Grammar.{Accepts}
use Rattle.gup_spec_grammar.specs.declared.fault.ScriptFault.{ScriptFault}
use Rattle.gup_io.specs.Faults.{HasCause, EndsInFault}
use Rattle.gup_io.specs.Transfers.{Loses}
use Rattle.gup_front.specs.Lines.{refusal_text}
use Rattle.gup_front.specs.Reading.{OfScript, OfText, IsScriptOf, IsRefusedFor, IsReadThrough}
use Rattle.gup_front.proofs.ReadBytes.{has_cause, of_script, are_script, of_none}
use Rattle.gup_top.specs.Report.{IsLiveIn, RunsLive}
use Rattle.gup_top.specs.Commands.{Outside, Takes, TakesPart, IsWell, IsScriptRead, IsLiveReport, AreFaultsTold, IsRefusalTold, IsReport}
use Rattle.gup_top.specs.LiveRun.{IsLiveTold}
use Rattle.gup_top.specs.declared.command.Format.{Format}
use Rattle.gup_top.specs.declared.serial.Report.{Report}
use Rattle.gup_top.proofs.Commands.{live_not_run, live_not_checked, live_not_made, lives_in, one_live_format}
use Rattle.gup_top.proofs.Reports.{of_any, if_none, if_this, if_any, no_machine}
use Rattle.gup_top.proofs.Told.{of_text, are_bytes, none_told}

module _ (words : List (List ℕ)) (before after : Outside) (report : Report) (unmade : report.machine ≡ None) where
  -- what is said of a text that was written, in part or whole
  abbrev IsFaultTold : Type 0
  IsFaultTold = report.status ≡ 6 → EndsInFault before.write_faults after.write_faults after.write_faulted

  abbrev IsUncounted : Type 0
  IsUncounted = (report.status ≡ 6 → ⊥) → after.write_faults ≡ before.write_faults

  of_live : RunsLive words → IsLiveReport words before after report
      → AreFaultsTold before after report.status → IsRefusalTold before after report → IsReport words before after report
  of_live asked told faults refusal =
      record {
        runs = λ runs. absurd (live_not_run words asked runs);
        lives = λ live. told;
        checks = λ checked. absurd (live_not_checked words asked checked);
        makes = λ n made. absurd (live_not_made words n asked made);
        usage = λ none. absurd (none (inr asked));
        command = λ two. absurd (omega (arith, told.statuses));
        live = λ other. absurd (other asked);
        faults = faults;
        refusal = refusal;
        machine = no_machine words report unmade (λ ran. live_not_run words asked ran.0);
      }

  -- no script has run
  unrun_live : (report.status ≡ 3) ⊎ (report.status ≡ 5) ⊎ (report.status ≡ 6) ⊎ (report.status ≡ 7)
      → (IsWell before after → OfScript before.left (λ script. (report.status ≡ 0) ⊎ (report.status ≡ 7)))
      → IsScriptRead before after report → (report.status ≡ 6 → OfScript before.left (λ script. ⊥)) → (report.status ≡ 6 → IsSome report.refusal)
      → report.journal.notes ≡ [] → report.live ≡ None → IsLiveReport words before after report
  unrun_live statuses complete read none some notes unlive =
      record {
        statuses = grind arith;
        script = λ zero_is. absurd (omega (arith, statuses, zero_is));
        told = λ format asked zero_is. absurd (omega (arith, statuses, zero_is));
        complete = complete;
        read = read;
        text_part = λ format asked six. none_told before.left (λ bytes script. IsLiveTold format bytes script report.live (TakesPart before after)) (none six);
        refused_or_ran = λ format asked six. inl (some six);
        unrun = notes;
        none = λ has. unlive;
      }

  -- no text was refused
  unrefused : report.refusal ≡ None → (report.status ≡ 3 → ⊥) → report.journal.notes ≡ [] → IsRefusalTold before after report
  unrefused none other notes =
      record {
        there = λ three. absurd (other three);
        text = λ three. absurd (other three);
        part = λ six. if_none report.refusal (λ fault. TakesPart before after (refusal_text fault)) none;
        none = λ has. none;
        refused_unrun = if_none report.refusal (λ fault. report.journal.notes ≡ []) none;
        unrun = λ has. notes;
      }

  -- ---- the ways

  -- a read failed
  pub failed_live : RunsLive words → report.status ≡ 5 → report.refusal ≡ None → report.journal.notes ≡ [] → report.live ≡ None
      → Loses 0 1048577 before.left after.left → EndsInFault before.read_faults after.read_faults after.read_faulted
      → after.write_faults ≡ before.write_faults → IsReport words before after report
  failed_live asked five none notes unlive reading fault unwritten =
      of_live asked
      (unrun_live (inr (inl five)) (λ well. absurd (well.0 (has_cause _ _ _ fault)))
      (record {
        refused = λ three. absurd (omega (arith, three, five));
        refusal = if_none report.refusal (IsRefusedFor before.left) none;
        reading = reading;
        read_through = λ other. absurd (other five);
      })
      (λ six. absurd (omega (arith, six, five))) (λ six. absurd (omega (arith, six, five))) notes unlive)
      (record { read = λ is. fault; no_read = λ other. absurd (other five); write = λ six. absurd (omega (arith, six, five)); no_write = λ well. unwritten })
      (unrefused none (λ three. omega (arith, three, five)) notes)

  -- memory ran out
  pub memory_live : RunsLive words → report.status ≡ 7 → report.refusal ≡ None → report.journal.notes ≡ [] → report.live ≡ None
      → Loses 0 1048577 before.left after.left → after.read_faults ≡ before.read_faults → after.write_faults ≡ before.write_faults
      → IsReport words before after report
  memory_live asked seven none notes unlive reading uncounted unwritten =
      of_live asked
      (unrun_live (inr (inr (inr seven))) (λ well. of_any before.left (λ script. (report.status ≡ 0) ⊎ (report.status ≡ 7)) (λ script. inr seven))
      (record {
        refused = λ three. absurd (omega (arith, three, seven));
        refusal = if_none report.refusal (IsRefusedFor before.left) none;
        reading = reading;
        read_through = λ five other. absurd (other seven);
      })
      (λ six. absurd (omega (arith, six, seven))) (λ six. absurd (omega (arith, six, seven))) notes unlive)
      (record { read = λ five. absurd (omega (arith, five, seven)); no_read = λ well. uncounted; write = λ six. absurd (omega (arith, six, seven)); no_write = λ well. unwritten })
      (unrefused none (λ three. omega (arith, three, seven)) notes)

  -- a script was refused
  pub refused_live : (fault : ScriptFault) → report.refusal ≡ Some fault → report.live ≡ None → RunsLive words
      → OfScript before.left (λ script. ⊥) → IsRefusedFor before.left fault
      → Loses 0 1048577 before.left after.left → IsReadThrough before.left after.left → after.read_faults ≡ before.read_faults
      → (report.status ≡ 3) ⊎ (report.status ≡ 6) ⊎ (report.status ≡ 7) → report.journal.notes ≡ []
      → (report.status ≡ 3 → Takes before after (refusal_text fault)) → (report.status ≡ 6 → TakesPart before after (refusal_text fault))
      → IsFaultTold → IsUncounted → IsReport words before after report
  refused_live fault is unlive asked none why reading read_through uncounted statuses notes text part write no_write =
      of_live asked
      (unrun_live (grind arith) (λ well. of_none before.left (λ script. (report.status ≡ 0) ⊎ (report.status ≡ 7)) none)
      (record {
        refused = λ three. none;
        refusal = if_this report.refusal (IsRefusedFor before.left) fault is why;
        reading = reading;
        read_through = λ five seven. read_through;
      })
      (λ six. none) (λ six. subst (λ (r : Option ScriptFault). IsSome r) (sym is) refl) notes unlive)
      (record { read = λ five. absurd (omega (arith, five, statuses)); no_read = λ well. uncounted; write = write; no_write = no_write })
      (record {
        there = λ three. subst (λ (r : Option ScriptFault). IsSome r) (sym is) refl;
        text = λ three. if_this report.refusal (λ f. Takes before after (refusal_text f)) fault is (text three);
        part = λ six. if_this report.refusal (λ f. TakesPart before after (refusal_text f)) fault is (part six);
        none = λ has. absurd (omega (arith, statuses, has));
        refused_unrun = if_any report.refusal (report.journal.notes ≡ []) notes;
        unrun = λ has. notes;
      })

  -- the actors have run
  module _ (format : Format) (bytes : List ℕ) (script : ScriptValue) (asked : IsLiveIn words format)
      (one : (text : List ℕ) (a b : ScriptValue) → Accepts text a → Accepts text b → a ≡ b)
      (accepted : Accepts bytes script) (spelt : IfSome before.left (λ b. bytes ≡ b)) (read : IsScriptOf before.left script) where
    of_bytes : (P : List ℕ → ScriptValue → Type 0) → P bytes script → OfText before.left P
    of_bytes P p = of_text before.left bytes script P one spelt accepted p

    abbrev IsTold : (List ℕ → Type 0) → Format → List ℕ → ScriptValue → Type 0
    IsTold W f b s = IsLiveTold f b s report.live W

    in_format : (W : List ℕ → Type 0) (f : Format) → IsLiveIn words f → IsTold W format bytes script → IsTold W f bytes script
    in_format W f told so = subst (λ (g : Format). IsTold W g bytes script) (one_live_format words format f asked told) so

    pub run_live_report : Loses 0 1048577 before.left after.left → IsReadThrough before.left after.left → after.read_faults ≡ before.read_faults
        → (report.status ≡ 0) ⊎ (report.status ≡ 6) ⊎ (report.status ≡ 7) → report.refusal ≡ None → report.journal.notes ≡ []
        → (report.status ≡ 0 → IsLiveTold format bytes script report.live (Takes before after))
        → (report.status ≡ 6 → IsLiveTold format bytes script report.live (TakesPart before after))
        → (report.status ≡ 7 → report.live ≡ None) → IsFaultTold → IsUncounted → IsReport words before after report
    run_live_report reading read_through uncounted statuses none notes finished part unlive write no_write =
        of_live (lives_in words format asked)
        (record {
          statuses = grind arith;
          script = λ zero_is. are_script before.left script read;
          told = λ f told zero_is. of_bytes (IsTold (Takes before after) f) (in_format (Takes before after) f told (finished zero_is));
          complete = λ well. of_script before.left script (λ s. (report.status ≡ 0) ⊎ (report.status ≡ 7)) one read (complete well);
          read =
              record {
                refused = λ three. absurd (omega (arith, statuses, three));
                refusal = if_none report.refusal (IsRefusedFor before.left) none;
                reading = reading;
                read_through = λ five seven. read_through;
              };
          text_part = λ f told six. of_bytes (IsTold (TakesPart before after) f) (in_format (TakesPart before after) f told (part six));
          refused_or_ran = λ f told six. inr (bytes, script, are_bytes before.left bytes spelt, accepted, in_format (TakesPart before after) f told (part six));
          unrun = notes;
          none = λ has. unlive (omega (arith, statuses, has));
        })
        (record { read = λ five. absurd (omega (arith, statuses, five)); no_read = λ well. uncounted; write = write; no_write = no_write })
        (unrefused none (λ three. omega (arith, statuses, three)) notes)
      where
        complete : IsWell before after → (report.status ≡ 0) ⊎ (report.status ≡ 7)
        complete well = elim statuses [
          | inl zero_is ↦ inl zero_is
          | inr rest ↦ elim rest [ inl six ↦ absurd (well.1 (has_cause _ _ _ (write six))) | inr seven ↦ inr seven ]
        ]
