-- The turns that fill a mirror slot and look through one: they can be done, have their shapes, and empty no slot.
use Rattle.std.proofs.Common.{◌≡◌, ℕ, ◌<◌, ◌==◌, Bool, true, false, IsTrue, IsSome, List, [], ◌∷◌, ◌++◌, Option, Some, None, eqb-true, if◌then◌else◌, refl, ap, sym, subst, ◌∙◌}
use Rattle.gup_base.specs.declared.entry.Allowed.TheVariants.{Any}
use Rattle.gup_base.specs.declared.entry.Entry.{Entry}
use Rattle.gup_base.specs.declared.entry.Rights.{Rights}
use Rattle.gup_plain.specs.Denial.{load_denial}
use Rattle.gup_plain.specs.Event.{words}
use Rattle.gup_plain.specs.State.{Noted}
use Rattle.gup_plain.specs.declared.answer.Answer.{Answer}
use Rattle.gup_plain.specs.declared.answer.Answer.TheVariants as answers
use Rattle.gup_plain.specs.declared.event.PlainEvent.TheVariants as events
use Rattle.gup_plain.specs.declared.note.What.TheVariants.{Event, Done}
use Rattle.gup_script.specs.Limits.{most_mirrors}
use Rattle.gup_script.specs.declared.op.Op.TheVariants.{Mirror, Look}
use Rattle.gup_spec_events.specs.State.{CoreState, Taken as TakenPage, idle}
use Rattle.gup_spec_events.specs.Event.{CoreEvent, AreUnlocked, happens, entry_of, take_frame, fill, fill_mirror, run}
use Rattle.gup_spec_events.specs.Fault.{read_fault}
use Rattle.gup_law_base.specs.Sound.{IsSound}
use Rattle.gup_spec_journal.specs.Follows.{refuses}
use Rattle.gup_spec_journal.specs.Place.{Place, Doer}
use Rattle.gup_spec_journal.specs.Plain.{IsAnswerOf}
use Rattle.gup_spec_turns.specs.CoreTurn.{CoreTurn, answers_with, after_fault, frame_for, entry_in}
use Rattle.gup_spec_turns.specs.Emptying.{invalidate, left_in}
use Rattle.gup_spec_turns.specs.MirrorTurns.{fills, mirror_turn, look_turn}
use Rattle.gup_spec_turns.specs.Waits.{waits_for_locks, both_locks}
use Rattle.gup_law_turns.proofs.CalmStates.{of_mirror, filling_slot, looking}
use Rattle.gup_law_turns.proofs.EmptiedSlots.{stale_by}
use Rattle.gup_law_turns.proofs.EmptiedTurns.{calmed}
use Rattle.gup_law_turns.specs.Slots.{EmptiesSlots, LeavesSlot}
use Rattle.gup_law_turns.proofs.FaultTurns.{IsReady, MayFault, may_fault, filled}
use Rattle.gup_law_turns.proofs.PageOps.{named_load}
use Rattle.gup_law_turns.proofs.PageSearches.{frame_for_free}
use Rattle.gup_law_turns.proofs.Puts.{put2_same}
use Rattle.gup_law_turns.proofs.ReferenceOps.{entry_is}
use Rattle.gup_law_turns.proofs.ShownTurns.{IsOpen, IsTurned, shape_idle, both_free, kinds_behind, told_behind}
use Rattle.gup_law_turns.proofs.TurnShapes.{AtFirst, FitsOp, Rests, refused, filled_slot, looked, AtRest}
use Rattle.gup_spec_events.proofs.Runs.{run_behind, can_behind}

-- ---- mirror

-- Its page is made present as by a fault in the state with all slots empty, which asks for none.
module _ (s : CoreState) (who : Doer) (place : Place) (h : IsOpen (calmed s) who.actor who.proc) (rest : AtRest s who.actor) (rests : Rests s who.actor) (mirror proc page : ℕ) (named : who.proc ≡ proc) (within : mirror < most_mirrors) (first : AtFirst place) where
  abbrev a : ℕ
  a = who.actor

  abbrev p : ℕ
  p = who.proc

  may : MayFault (calmed s) a p
  may = may_fault (calmed s) a p h rests.0

  -- it is refused
  mirror_refused : (answer : Answer) → IsTrue (refuses (Mirror mirror proc page) answer) → IsAnswerOf (load_denial (s.right p page)) answer → IsTurned s who place (Mirror mirror proc page) (answers_with answer)
  mirror_refused answer refusal right =
      record {
        done = record { kinds = tt; can = tt; rest = rest; told = refl };
        shape = shape_idle s s who place (Mirror mirror proc page) (Done answer ∷ []) rests.0 rests.0 (refused (Mirror mirror proc page) answer first refusal tt tt right tt);
        next = rests;
        pin = tt;
      }

  -- after the events of a fault, which leave the locks of the process, and what actors have taken
  record IsReadyToFill (before : List CoreEvent) : Type 0 where
    ready : IsReady s a p before
    unlocked : AreUnlocked (run s before) p
    there : IsSome ((run s before).entry p page)
    taken : (run s before).taken ≡ s.taken

  mirror_ready : (before : List CoreEvent) → load_denial (s.right p page) ≡ None → IsReadyToFill before → IsTurned s who place (Mirror mirror proc page) (fills s before a p mirror page)
  mirror_ready before undenied at =
      let t : CoreState = run s before in
      let e : Entry = entry_in (t.entry p page) in
      let last : List CoreEvent = fill_mirror a mirror p page e.frame e.writable ∷ [] in
      let same : run s (before ++ last) ≡ happens t (fill_mirror a mirror p page e.frame e.writable) = run_behind s before last in
      let job : (run s (before ++ last)).job a ≡ idle = ap (λ (u : CoreState). u.job a) same ∙ at.ready.job in
      record {
        done = record {
          kinds = kinds_behind a p p (of_mirror mirror) before last (at.ready.kinds (of_mirror mirror)) (filling_slot mirror refl within page e.frame e.writable, tt);
          can = can_behind s before last at.ready.can ((at.ready.birth, at.unlocked, entry_is (t.entry p page) at.there), tt);
          rest = subst (λ (u : CoreState). AtRest u a) (sym same) (record { prepared = at.ready.rest.prepared; owed = at.ready.rest.owed });
          told = told_behind before last at.ready.told;
        };
        shape = shape_idle s (run s (before ++ last)) who place (Mirror mirror proc page) (Event (events.MirrorFill a mirror p page) ∷ Done answers.Plain ∷ []) rests.0 job (filled_slot mirror proc page named first undenied);
        next = (job, ap (λ (u : CoreState). u.taken a) same ∙ ap (λ (f : ℕ → List TakenPage). f a) at.taken ∙ rests.1);
        pin = tt;
      }

  module _ (unlocked : AreUnlocked s p) where
    mirror_fills : (rights : Option Rights) (free : Option ℕ) → s.right p page ≡ rights → frame_for s p page Any ≡ free → s.entry p page ≡ None → IsTurned s who place (Mirror mirror proc page) (after_fault (read_fault a p page rights None free) (λ before. fills s before a p mirror page))
    mirror_fills None free is found none = mirror_refused answers.Missing refl (rw is refl)
    mirror_fills (Some rights) None is found none = mirror_refused answers.NoFrame refl (rw is refl)
    mirror_fills (Some rights) (Some f) is found none =
        let bare = filled (calmed s) a p may unlocked page (frame_for s p page Any) (frame_for_free s p page Any) f found (rw is refl) none in
        mirror_ready (take_frame a f ∷ fill a p page f ∷ []) (rw is refl)
        (record {
          ready = record {
            kinds = bare.kinds;
            can = bare.can;
            rest = record { prepared = bare.rest.prepared; owed = bare.rest.owed };
            job = bare.job;
            birth = bare.birth;
            told = refl;
            right = refl;
          };
          unlocked = unlocked;
          there = rw (put2_same p page (Some (entry_of f false)) s.entry) refl;
          taken = refl;
        })

    mirror_by : (entry : Option Entry) → s.entry p page ≡ entry → IsTurned s who place (Mirror mirror proc page) (mirror_turn s a p mirror page entry)
    mirror_by (Some e) is =
        mirror_ready [] (named_load (calmed s) who place h rests page e is (s.right p page) refl)
        (record {
          ready = record { kinds = λ strand. tt; can = tt; rest = rest; job = rests.0; birth = h.birth; told = refl; right = refl };
          unlocked = unlocked;
          there = rw is refl;
          taken = refl;
        })
    mirror_by None is = mirror_fills (s.right p page) (frame_for s p page Any) refl refl is

pub mirror_turned : (s : CoreState) (who : Doer) (place : Place) → IsSound s → IsOpen (calmed s) who.actor who.proc → AtRest s who.actor → (mirror proc page : ℕ) → who.proc ≡ proc → mirror < most_mirrors → FitsOp s who (Mirror mirror proc page) place → waits_for_locks both_locks who.actor (s.structure who.proc) (s.table who.proc) ≡ None → IsTurned s who place (Mirror mirror proc page) (mirror_turn s who.actor who.proc mirror page (s.entry who.proc page))
mirror_turned s who place sound h rest mirror proc page named within fits free =
    mirror_by s who place h rest fits.0 mirror proc page named within fits.1 (both_free s who.actor who.proc sound fits.0.0 free) (s.entry who.proc page) refl

-- it invalidates nothing

pub mirror_none : (s : CoreState) (a p mirror page q g : ℕ) (entry : Option Entry) → invalidate (mirror_turn s a p mirror page entry).events q g ≡ false
mirror_none s a p mirror page q g (Some e) = refl
mirror_none s a p mirror page q g None = by_rights (s.right p page) (frame_for s p page Any)
  where
    by_rights : (rights : Option Rights) (free : Option ℕ) → invalidate (after_fault (read_fault a p page rights None free) (λ before. fills s before a p mirror page)).events q g ≡ false
    by_rights None free = refl
    by_rights (Some rights) None = refl
    by_rights (Some rights) (Some f) = refl

-- and leaves all other slots

mirror_leaves : (s : CoreState) (a p mirror page m : ℕ) (entry : Option Entry) → (m == mirror) ≡ false → ((run s (mirror_turn s a p mirror page entry).events).mirrored m ≡ s.mirrored m) × ((run s (mirror_turn s a p mirror page entry).events).slot m ≡ s.slot m)
mirror_leaves s a p mirror page m (Some e) other = (simp other, simp other)
mirror_leaves s a p mirror page m None other = by_rights (s.right p page) (frame_for s p page Any)
  where
    by_rights : (rights : Option Rights) (free : Option ℕ) → ((run s (after_fault (read_fault a p page rights None free) (λ before. fills s before a p mirror page)).events).mirrored m ≡ s.mirrored m) × ((run s (after_fault (read_fault a p page rights None free) (λ before. fills s before a p mirror page)).events).slot m ≡ s.slot m)
    by_rights None free = (refl, refl)
    by_rights (Some rights) None = (refl, refl)
    by_rights (Some rights) (Some f) = (simp other, simp other)

pub fresh_left : (es : List CoreEvent) → ((p g : ℕ) → invalidate es p g ≡ false) → (frame : Option ℕ) (noted : Option Noted) → left_in es frame noted ≡ frame
fresh_left es none frame noted = ap (λ (stale : Bool). if stale then None else frame) (stale_by es none frame noted)

pub mirror_slots : (s : CoreState) (a p mirror proc page : ℕ) → EmptiesSlots s (Some (Mirror mirror proc page)) (mirror_turn s a p mirror page (s.entry p page))
mirror_slots s a p mirror proc page =
    let turn : CoreTurn = mirror_turn s a p mirror page (s.entry p page) in
    record {
      left = λ m leaves. (mirror_leaves s a p mirror page m (s.entry p page) (apart m leaves (m == mirror) refl)).0
          ∙ sym (fresh_left turn.events (λ q g. mirror_none s a p mirror page q g (s.entry p page)) (s.mirrored m) (s.slot m));
      notes = λ m leaves. (mirror_leaves s a p mirror page m (s.entry p page) (apart m leaves (m == mirror) refl)).1;
    }
  where
    apart : (m : ℕ) → LeavesSlot (Some (Mirror mirror proc page)) m → (same : Bool) → (m == mirror) ≡ same → same ≡ false
    apart m leaves true is = absurd (leaves proc page (ap (λ (k : ℕ). Some (Mirror k proc page)) (sym (eqb-true m mirror is))))
    apart m leaves false is = refl

-- ---- look

module _ (s : CoreState) (who : Doer) (place : Place) (rest : AtRest s who.actor) (rests : Rests s who.actor) (mirror word : ℕ) (first : AtFirst place) where
  look_by : word < words → (frame : Option ℕ) → s.mirrored mirror ≡ frame → IsTurned s who place (Look mirror word) (look_turn s who.actor mirror word frame)
  look_by within None is =
      record {
        done = record { kinds = tt; can = tt; rest = rest; told = refl };
        shape = shape_idle s s who place (Look mirror word) (Done answers.Stale ∷ []) rests.0 rests.0 (refused (Look mirror word) answers.Stale first refl tt tt refl tt);
        next = rests;
        pin = tt;
      }
  look_by within (Some f) is =
      let value : ℕ = s.word f word in
      record {
        done = record { kinds = (looking mirror word f value, tt); can = ((is, within, refl), tt); rest = rest; told = refl };
        shape = shape_idle s s who place (Look mirror word) (Event (events.Look who.actor mirror word value) ∷ Done (answers.Value value) ∷ []) rests.0 rests.0 (looked mirror word value first);
        next = rests;
        pin = tt;
      }

pub look_turned : (s : CoreState) (who : Doer) (place : Place) → AtRest s who.actor → (mirror word : ℕ) → word < words → FitsOp s who (Look mirror word) place → IsTurned s who place (Look mirror word) (look_turn s who.actor mirror word (s.mirrored mirror))
look_turned s who place rest mirror word within fits = look_by s who place rest fits.0 mirror word fits.1 within (s.mirrored mirror) refl

pub look_none : (s : CoreState) (a mirror word q g : ℕ) (frame : Option ℕ) → invalidate (look_turn s a mirror word frame).events q g ≡ false
look_none s a mirror word q g None = refl
look_none s a mirror word q g (Some f) = refl

pub look_leaves : (s : CoreState) (a mirror word : ℕ) (frame : Option ℕ) → run s (look_turn s a mirror word frame).events ≡ s
look_leaves s a mirror word None = refl
look_leaves s a mirror word (Some f) = refl

pub look_slots : (s : CoreState) (a mirror word : ℕ) → EmptiesSlots s (Some (Look mirror word)) (look_turn s a mirror word (s.mirrored mirror))
look_slots s a mirror word =
    let turn : CoreTurn = look_turn s a mirror word (s.mirrored mirror) in
    let same : run s turn.events ≡ s = look_leaves s a mirror word (s.mirrored mirror) in
    record {
      left = λ m leaves. ap (λ (t : CoreState). t.mirrored m) same
          ∙ sym (fresh_left turn.events (λ q g. look_none s a mirror word q g (s.mirrored mirror)) (s.mirrored m) (s.slot m));
      notes = λ m leaves. ap (λ (t : CoreState). t.slot m) same;
    }
