-- The turns that get a reference of a page's frame and put one back can be done, have their shapes, and lead where the next
-- turn can go on.
use Rattle.std.proofs.Common.{◌≡◌, ℕ, Bool, true, false, IsTrue, IsSome, List, [], ◌∷◌, ◌++◌, Option, Some, None, eqb-true, refl, ap, sym, subst, ◌∙◌}
use Rattle.gup_base.specs.declared.entry.Allowed.TheVariants.{Any}
use Rattle.gup_base.specs.declared.entry.Entry.{Entry}
use Rattle.gup_base.specs.declared.entry.Rights.{Rights}
use Rattle.gup_plain.specs.Denial.{load_denial, holder_denial}
use Rattle.gup_plain.specs.declared.answer.Answer.{Answer}
use Rattle.gup_plain.specs.declared.answer.Answer.TheVariants as answers
use Rattle.gup_plain.specs.declared.note.What.TheVariants.{Done}
use Rattle.gup_script.specs.declared.op.Op.TheVariants.{Get, Put}
use Rattle.gup_spec_events.specs.State.{CoreState, Taken as TakenPage, idle}
use Rattle.gup_spec_events.specs.Event.{CoreEvent, AreUnlocked, happens, entry_of, take_frame, fill, get_reference, put_reference, run}
use Rattle.gup_spec_events.specs.Fault.{read_fault}
use Rattle.gup_spec_journal.specs.Denial.{has_reference}
use Rattle.gup_spec_journal.specs.Follows.{refuses}
use Rattle.gup_spec_journal.specs.Place.{Place, Doer}
use Rattle.gup_spec_journal.specs.Plain.{IsAnswerOf}
use Rattle.gup_spec_turns.specs.CoreTurn.{answers_with, frame_for, entry_in}
use Rattle.gup_spec_turns.specs.PinTurns.{gets, get_turn, got_frame, got_by, put_turn}
use Rattle.gup_spec_turns.specs.Waits.{waits_for_locks, locks_needed}
use Rattle.gup_spec_turns.proofs.TurnParts.{gets_after, put_turn_by}
use Rattle.gup_law_turns.proofs.CalmStates.{of_get, getting, putting_back}
use Rattle.gup_law_turns.proofs.FaultTurns.{IsReady, MayFault, may_fault, needs_none, filled}
use Rattle.gup_law_turns.proofs.PageOps.{named_load}
use Rattle.gup_law_turns.proofs.PageSearches.{frame_for_free}
use Rattle.gup_law_turns.proofs.Puts.{put2_same}
use Rattle.gup_law_turns.proofs.ShownTurns.{IsOpen, IsQuiet, IsTurned, shape_idle, both_free, kinds_behind, told_behind}
use Rattle.gup_law_turns.proofs.TurnShapes.{AtFirst, FitsOp, Rests, refused, got_one, put_back, AtRest}
use Rattle.gup_spec_events.proofs.Runs.{run_behind, can_behind}

-- get

pub entry_is : (entry : Option Entry) → IsSome entry → entry ≡ Some (entry_of (entry_in entry).frame (entry_in entry).writable)
entry_is None is = absurd (cc is)
entry_is (Some e) is = refl

module _ (s : CoreState) (who : Doer) (place : Place) (h : IsOpen s who.actor who.proc) (rests : Rests s who.actor) (handle page : ℕ) (first : AtFirst place) (ungot : s.got handle ≡ None) where
  abbrev a : ℕ
  a = who.actor

  abbrev p : ℕ
  p = who.proc

  may : MayFault s a p
  may = may_fault s a p h rests.0

  -- it is refused
  get_refused : (answer : Answer) → IsTrue (refuses (Get handle page) answer) → IsAnswerOf (load_denial (s.right p page)) answer → IsTurned s who place (Get handle page) (answers_with answer)
  get_refused answer refusal right =
      record {
        done = record { kinds = tt; can = tt; rest = h.rest; told = refl };
        shape = shape_idle s s who place (Get handle page) (Done answer ∷ []) rests.0 rests.0 (refused (Get handle page) answer first refusal tt tt right tt);
        next = rests;
        pin = tt;
      }

  -- after the events of a fault, which leave the locks of the process, references, and what actors have taken
  record IsReadyToGet (before : List CoreEvent) : Type 0 where
    ready : IsReady s a p before
    unlocked : AreUnlocked (run s before) p
    there : IsSome ((run s before).entry p page)
    got : (run s before).got ≡ s.got
    taken : (run s before).taken ≡ s.taken

  get_ready : (before : List CoreEvent) → load_denial (s.right p page) ≡ None → IsReadyToGet before → IsTurned s who place (Get handle page) (gets s before a p handle page)
  get_ready before undenied at =
      let t : CoreState = run s before in
      let e : Entry = entry_in (t.entry p page) in
      let last : List CoreEvent = get_reference a p page e.frame handle e.writable ∷ [] in
      let same : run s (before ++ last) ≡ happens t (get_reference a p page e.frame handle e.writable) = run_behind s before last in
      let job : (run s (before ++ last)).job a ≡ idle = ap (λ (u : CoreState). u.job a) same ∙ at.ready.job in
      record {
        done = record {
          kinds = kinds_behind a p p (of_get handle) before last (at.ready.kinds (of_get handle)) (getting handle refl page e.frame e.writable, tt);
          can = can_behind s before last at.ready.can ((at.ready.birth, at.unlocked, entry_is (t.entry p page) at.there, ap (λ (f : ℕ → Option (ℕ × ℕ)). f handle) at.got ∙ ungot), tt);
          rest = subst (λ (u : CoreState). AtRest u a) (sym same) (record { prepared = at.ready.rest.prepared; owed = at.ready.rest.owed });
          told = told_behind before last at.ready.told;
        };
        shape = shape_idle s (run s (before ++ last)) who place (Get handle page) (Done answers.Plain ∷ []) rests.0 job (got_one handle page first undenied);
        next = (job, ap (λ (u : CoreState). u.taken a) same ∙ ap (λ (f : ℕ → List TakenPage). f a) at.taken ∙ rests.1);
        pin = tt;
      }

  module _ (unlocked : AreUnlocked s p) where
    get_fills : (rights : Option Rights) (free : Option ℕ) → s.right p page ≡ rights → frame_for s p page Any ≡ free → s.entry p page ≡ None → IsTurned s who place (Get handle page) (gets_after s (read_fault a p page rights None free) a p handle page)
    get_fills None free is found none = get_refused answers.Missing refl (rw is refl)
    get_fills (Some rights) None is found none = get_refused answers.NoFrame refl (rw is refl)
    get_fills (Some rights) (Some f) is found none =
        get_ready (take_frame a f ∷ fill a p page f ∷ []) (rw is refl)
        (record {
          ready = filled s a p may unlocked page (frame_for s p page Any) (frame_for_free s p page Any) f found (rw is refl) none;
          unlocked = unlocked;
          there = rw (put2_same p page (Some (entry_of f false)) s.entry) refl;
          got = refl;
          taken = refl;
        })

    get_by : (entry : Option Entry) → s.entry p page ≡ entry → IsTurned s who place (Get handle page) (get_turn s a p handle page entry)
    get_by (Some e) is =
        get_ready [] (named_load s who place h rests page e is (s.right p page) refl)
        (record { ready = needs_none s a p may; unlocked = unlocked; there = rw is refl; got = refl; taken = refl })
    get_by None is = get_fills (s.right p page) (frame_for s p page Any) refl refl is

pub get_turned : (s : CoreState) (who : Doer) (place : Place) → IsOpen s who.actor who.proc → (handle page : ℕ) → s.got handle ≡ None → FitsOp s who (Get handle page) place → waits_for_locks (locks_needed s who.actor who.proc place.far (Get handle page)) who.actor (s.structure who.proc) (s.table who.proc) ≡ None → IsTurned s who place (Get handle page) (get_turn s who.actor who.proc handle page (s.entry who.proc page))
get_turned s who place h handle page ungot fits free =
    get_by s who place h fits.0 handle page fits.1 ungot (both_free s who.actor who.proc h.sound fits.0.0 free) (s.entry who.proc page) refl

-- put

-- whoever is found to have got a reference has got it
pub reference_there : (got : Option (ℕ × ℕ)) (a : ℕ) → has_reference (got_by got) a ≡ true → got ≡ Some (a, got_frame got)
reference_there None a has = absurd (cc has)
reference_there (Some got) a has = ap (λ (b : ℕ). Some (b, got.1)) (eqb-true got.0 a has)

put_by : (s : CoreState) (who : Doer) (place : Place) → IsQuiet s who.actor → Rests s who.actor → (handle : ℕ) → AtFirst place → (has : Bool) → has_reference (got_by (s.got handle)) who.actor ≡ has → IsTurned s who place (Put handle) (put_turn_by has who.actor handle (got_frame (s.got handle)))
put_by s who place h rests handle first false is =
    record {
      done = record { kinds = tt; can = tt; rest = h.rest; told = refl };
      shape = shape_idle s s who place (Put handle) (Done answers.NotHeld ∷ []) rests.0 rests.0 (refused (Put handle) answers.NotHeld first refl tt tt (rw is refl) tt);
      next = rests;
      pin = tt;
    }
put_by s who place h rests handle first true is =
    let f : ℕ = got_frame (s.got handle) in
    let t : CoreState = happens s (put_reference who.actor f handle) in
    record {
      done = record {
        kinds = (putting_back handle refl f, tt);
        can = (reference_there (s.got handle) who.actor is, tt);
        rest = record { prepared = h.rest.prepared; owed = h.rest.owed };
        told = refl;
      };
      shape = shape_idle s t who place (Put handle) (Done answers.Plain ∷ []) rests.0 rests.0 (put_back handle first (ap holder_denial is));
      next = rests;
      pin = tt;
    }

pub put_turned : (s : CoreState) (who : Doer) (place : Place) → IsQuiet s who.actor → (handle : ℕ) → FitsOp s who (Put handle) place → IsTurned s who place (Put handle) (put_turn s who.actor handle)
put_turned s who place h handle fits =
    put_by s who place h fits.0 handle fits.1 (has_reference (got_by (s.got handle)) who.actor) refl
