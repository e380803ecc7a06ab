-- What the notes tell to be filled is filled: each turn keeps that, so that no look is stale through such a slot.
use Rattle.std.proofs.Common.{◌≡◌, ℕ, ◌+◌, ◌==◌, Bool, true, false, List, [], ◌∷◌, ◌++◌, Option, Some, None, IsSome, refl, sym, ap, ◌∙◌, subst, if◌then◌else◌}
use Rattle.gup_base.specs.declared.entry.Allowed.TheVariants.{Any}
use Rattle.gup_base.specs.declared.entry.Entry.{Entry}
use Rattle.gup_base.specs.declared.entry.Rights.{Rights}
use Rattle.gup_plain.specs.Put.{put}
use Rattle.gup_plain.specs.State.{Noted, Birth, failed}
use Rattle.gup_plain.specs.declared.answer.Answer.{Answer}
use Rattle.gup_plain.specs.declared.answer.Answer.TheVariants as answers
use Rattle.gup_plain.specs.declared.event.PlainEvent.TheVariants as events
use Rattle.gup_plain.specs.declared.note.What.{What}
use Rattle.gup_plain.specs.declared.note.What.TheVariants.{Wait, Event, Done}
use Rattle.gup_plain.specs.declared.note.Waiting.{Waiting}
use Rattle.gup_script.specs.Script.{ScriptValue}
use Rattle.gup_script.specs.Valid.{IsScript, IsOp}
use Rattle.gup_script.specs.declared.op.Op.{Op}
use Rattle.gup_script.specs.declared.op.Op.TheVariants.{Mirror, Look}
use Rattle.gup_spec_events.specs.State.{CoreState}
use Rattle.gup_spec_events.specs.Event.{CoreEvent, happens, take_frame, fill, fill_mirror, run}
use Rattle.gup_spec_events.specs.Fault.{read_fault}
use Rattle.gup_spec_events.specs.Invariant.{frame_of}
use Rattle.gup_law_base.specs.Sound.{IsSound}
use Rattle.gup_spec_journal.specs.Order.{Turn, journal_of}
use Rattle.gup_spec_journal.specs.Place.{Place, Doer, first_place, doer_of, birth_for}
use Rattle.gup_spec_journal.specs.Stale.{PageOf, Slots, IsStaleAt, AreStaleIn, AreStaleSeen}
use Rattle.gup_spec_turns.specs.CoreTurn.{CoreTurn, answers_with, after_fault, frame_for, entry_in}
use Rattle.gup_spec_turns.specs.Emptying.{invalidate, left_in, emptying}
use Rattle.gup_spec_turns.specs.MirrorTurns.{fills, mirror_turn, look_turn}
use Rattle.gup_spec_turns.specs.Run.{RunState, AreTurns, run_start, op_in, waiting_in, run_after, core_turn_by, core_turn_in}
use Rattle.gup_spec_turns.specs.Turn.{turn_at, turn_of, own_turn}
use Rattle.gup_law_turns.proofs.EmptiedSlots.{none_emptying}
use Rattle.gup_law_turns.specs.Slots.{EmptiesSlots, LeavesSlot}
use Rattle.gup_law_turns.proofs.EventLists.{Law}
use Rattle.gup_law_turns.proofs.MirrorOps.{mirror_none, look_none}
use Rattle.gup_law_turns.proofs.Puts.{some_same}
use Rattle.gup_law_turns.proofs.ScriptLemmas.{op_is_op}
use Rattle.gup_law_turns.proofs.StandingStates.{Stands}
use Rattle.gup_law_turns.proofs.StandingTurns.{stands_on, Starts, stands_first}
use Rattle.gup_law_turns.proofs.TurnShapes.{FitsAt}
use Rattle.gup_law_turns.proofs.TurnSteps.{taken, slots_left}
use Rattle.gup_law_mirrors.proofs.EmptiedPages.{empties_of, spares}
use Rattle.gup_law_mirrors.proofs.SlotNotes.{slots_of_turn, AreStaleNotes, IsAnswerLast, stale_append, IsNoMirror, AreOwn, own_last, own_stale, left_spared, own_spared, Own, turn_own}
use Rattle.gup_spec_events.proofs.Runs.{run_behind}
use Rattle.gup_law_tables.specs.Standing.{IsButForTables}
use Rattle.gup_law_turns.proofs.TurnAsOwn.{as_own, idle_own}

-- the slot is filled with this page
pub record IsFilled (s : CoreState) (m : ℕ) (filled : PageOf) : Type 0 where
  pub frame : ℕ
  pub noted : Noted
  pub is : s.mirrored m ≡ Some frame
  pub slot : s.slot m ≡ Some noted
  pub proc : noted.proc ≡ filled.proc
  pub page : noted.page ≡ filled.page

-- so is each that the notes tell of
abbrev pub AreFilled : Slots → CoreState → Type 0
AreFilled slots s = (m : ℕ) (filled : PageOf) → slots m ≡ Some filled → IsFilled s m filled

-- A turn of an operation of process p keeps that, and has no stale look.
record KeepsSlots (s : CoreState) (p : ℕ) (op : Option Op) (turn : CoreTurn) : Type 0 where
  last : IsAnswerLast turn.whats
  stale : (slots : Slots) → AreFilled slots s → AreStaleNotes p op turn.whats slots
  filled : (slots : Slots) → AreFilled slots s → AreFilled (slots_of_turn p op turn.whats slots) (run s turn.events)

-- in a state that is like another one in that slot
filled_alike : (s t : CoreState) (m : ℕ) (filled : PageOf) → t.mirrored m ≡ s.mirrored m → t.slot m ≡ s.slot m → IsFilled s m filled → IsFilled t m filled
filled_alike s t m filled mirrored slot h =
    record { frame = h.frame; noted = h.noted; is = mirrored ∙ h.is; slot = slot ∙ h.slot; proc = h.proc; page = h.page }

-- page tables are no slots
filled_tabled : (s t : CoreState) → IsButForTables s t → (slots : Slots) → AreFilled slots s → AreFilled slots t
filled_tabled s t same slots are m filled is =
    filled_alike s t m filled (ap (λ (x : CoreState). x.mirrored m) same) (ap (λ (x : CoreState). x.slot m) same) (are m filled is)

with_tables : (s : CoreState) (who : Doer) (far : ℕ) (op : Op) → ((t : CoreState) → KeepsSlots t who.proc (Some op) (own_turn t who far op)) → KeepsSlots s who.proc (Some op) (turn_of s who far op)
with_tables s who far op keeps =
    let own = as_own s who far op in
    let t : CoreState = own.state in
    let kept : KeepsSlots t who.proc (Some op) (own_turn t who far op) = keeps t in
    let whats : List What = (own_turn t who far op).whats in
    record {
      last = subst IsAnswerLast (sym own.whats) kept.last;
      stale = λ slots are. subst (λ (ws : List What). AreStaleNotes who.proc (Some op) ws slots) (sym own.whats) (kept.stale slots (filled_tabled s t own.before slots are));
      filled = λ slots are.
          subst (λ (ws : List What). AreFilled (slots_of_turn who.proc (Some op) ws slots) (run s (turn_of s who far op).events)) (sym own.whats)
          (filled_tabled (run t (own_turn t who far op).events) (run s (turn_of s who far op).events) own.after (slots_of_turn who.proc (Some op) whats slots) (kept.filled slots (filled_tabled s t own.before slots are)));
    }

module _ (s : CoreState) where
  -- ---- mirrors

  -- an operation that is refused at once
  refusal_keeps : (p : ℕ) (op : Op) (answer : Answer) → ((slots : Slots) → AreFilled slots s → IsStaleAt slots (Some op) (Done answer)) → KeepsSlots s p (Some op) (answers_with answer)
  refusal_keeps p op answer stale =
      record {
        last = refl;
        stale = λ slots are. (stale slots are, tt);
        filled = λ slots are m filled is. are m filled (left_spared p op (slots m) filled is).0;
      }

  -- a turn that invalidates nothing empties no slot
  emptying_keeps : (a p : ℕ) (op : Op) (turn : CoreTurn) → ((q g : ℕ) → invalidate turn.events q g ≡ false) → KeepsSlots s p (Some op) turn → KeepsSlots s p (Some op) (emptying s a turn)
  emptying_keeps a p op turn none keeps = subst (KeepsSlots s p (Some op)) (sym (none_emptying s a turn none)) keeps

  -- a mirror fills its slot, after events that leave all slots
  module _ (a p mirror q page : ℕ) where
    fill_slot : (t : CoreState) (f : ℕ) (writable : Bool) (slots : Slots) (m : ℕ) (filled : PageOf) → AreFilled slots t → put mirror (Some (record { proc = p; page = page })) slots m ≡ Some filled → IsFilled (happens t (fill_mirror a mirror p page f writable)) m filled
    fill_slot t f writable slots m filled are is = go (m == mirror) refl is
      where
        go : (here : Bool) → (m == mirror) ≡ here → (if here then Some (record { proc = p; page = page }) else slots m) ≡ Some filled → IsFilled (happens t (fill_mirror a mirror p page f writable)) m filled
        go true same is =
            record {
              frame = f;
              noted = record { proc = p; page = page; object = t.object p page };
              is = rw same refl;
              slot = rw same refl;
              proc = ap (λ (x : PageOf). x.proc) (some_same is);
              page = ap (λ (x : PageOf). x.page) (some_same is);
            }
        go false other is = filled_alike t (happens t (fill_mirror a mirror p page f writable)) m filled (rw other refl) (rw other refl) (are m filled is)

    fill_keeps : (before : List CoreEvent) → (run s before).mirrored ≡ s.mirrored → (run s before).slot ≡ s.slot → KeepsSlots s p (Some (Mirror mirror q page)) (fills s before a p mirror page)
    fill_keeps before mirrored slot =
        let t : CoreState = run s before in
        let e : Entry = entry_in (t.entry p page) in
        let same : run s (before ++ fill_mirror a mirror p page e.frame e.writable ∷ []) ≡ happens t (fill_mirror a mirror p page e.frame e.writable) =
        run_behind s before (fill_mirror a mirror p page e.frame e.writable ∷ []) in
        record {
          last = refl;
          stale = λ slots are. (tt, (tt, tt));
          filled = λ slots are m filled is.
              let spared = left_spared p (Mirror mirror q page) (put mirror (Some (record { proc = p; page = page })) slots m) filled is in
              let before_it : AreFilled slots t = λ k x has. filled_alike s t k x (ap (λ (f : ℕ → Option ℕ). f k) mirrored) (ap (λ (f : ℕ → Option Noted). f k) slot) (are k x has) in
              subst (λ (u : CoreState). IsFilled u m filled) (sym same) (fill_slot t e.frame e.writable slots m filled before_it spared.0);
        }

    mirror_keeps : (entry : Option Entry) → KeepsSlots s p (Some (Mirror mirror q page)) (mirror_turn s a p mirror page entry)
    mirror_keeps (Some e) = fill_keeps [] refl refl
    mirror_keeps None = by_rights (s.right p page) (frame_for s p page Any)
      where
        by_rights : (rights : Option Rights) (free : Option ℕ) → KeepsSlots s p (Some (Mirror mirror q page)) (after_fault (read_fault a p page rights None free) (λ before. fills s before a p mirror page))
        by_rights None free = refusal_keeps p (Mirror mirror q page) answers.Missing (λ slots are. tt)
        by_rights (Some rights) None = refusal_keeps p (Mirror mirror q page) answers.NoFrame (λ slots are. tt)
        by_rights (Some rights) (Some f) = fill_keeps (take_frame a f ∷ fill a p page f ∷ []) refl refl

    -- that of a failed process is refused; it invalidates nothing, and so empties no slot
    mirror_by : (birth : Birth) → KeepsSlots s p (Some (Mirror mirror q page)) (emptying s a (turn_at birth (answers_with answers.Unborn) (mirror_turn s a p mirror page (s.entry p page))))
    mirror_by failed = emptying_keeps a p (Mirror mirror q page) (answers_with answers.Unborn) (λ r g. refl) (refusal_keeps p (Mirror mirror q page) answers.Unborn (λ slots are. tt))
    mirror_by birth =
        emptying_keeps a p (Mirror mirror q page) (mirror_turn s a p mirror page (s.entry p page)) (λ r g. mirror_none s a p mirror page r g (s.entry p page)) (mirror_keeps (s.entry p page))

  -- ---- looks

  module _ (a p mirror word : ℕ) where
    -- a slot that is told to be filled isn't empty
    empty_untold : (slots : Slots) → AreFilled slots s → s.mirrored mirror ≡ None → (told : Option PageOf) → slots mirror ≡ told → told ≡ None
    empty_untold slots are none None is = refl
    empty_untold slots are none (Some filled) is = absurd (let h = (are mirror filled is).is in cc (sym none ∙ h))

    look_keeps : (frame : Option ℕ) → s.mirrored mirror ≡ frame → KeepsSlots s p (Some (Look mirror word)) (look_turn s a mirror word frame)
    look_keeps None none = refusal_keeps p (Look mirror word) answers.Stale (λ slots are. empty_untold slots are none (slots mirror) refl)
    look_keeps (Some f) is =
        let value : ℕ = s.word f word in
        let whats : List What = Event (events.Look a mirror word value) ∷ Done (answers.Value value) ∷ [] in
        record {
          last = refl;
          stale = λ slots are. (tt, (tt, tt));
          filled = λ slots are m filled told. are m filled (own_spared p (Look mirror word) whats slots m filled (tt, refl) told).0;
        }

    look_by : (birth : Birth) → KeepsSlots s p (Some (Look mirror word)) (emptying s a (turn_at birth (answers_with answers.Unborn) (look_turn s a mirror word (s.mirrored mirror))))
    look_by failed = emptying_keeps a p (Look mirror word) (answers_with answers.Unborn) (λ r g. refl) (refusal_keeps p (Look mirror word) answers.Unborn (λ slots are. tt))
    look_by birth =
        emptying_keeps a p (Look mirror word) (look_turn s a mirror word (s.mirrored mirror)) (λ r g. look_none s a mirror word r g (s.mirrored mirror)) (look_keeps (s.mirrored mirror) refl)

  -- ---- any other operation

  leaves : (op : Op) (m : ℕ) → IsNoMirror op → LeavesSlot (Some op) m
  leaves (Mirror mirror proc page) m apart = absurd apart
  leaves op m apart = λ proc page is. cc is

  has_entry : (entry : Option Entry) (f : ℕ) → frame_of entry ≡ Some f → IsSome entry
  has_entry None f is = absurd (cc is)
  has_entry (Some e) f is = refl

  -- a slot of a page that it doesn't empty is left filled
  own_keeps : (p : ℕ) (op : Op) (turn : CoreTurn) → IsSound s → IsNoMirror op → AreOwn turn.whats → EmptiesSlots s (Some op) turn → ((f : ℕ) (noted : Noted) → IsSome (s.entry noted.proc noted.page) → empties_of p op noted.proc noted.page ≡ false → left_in turn.events (Some f) (Some noted) ≡ Some f) → KeepsSlots s p (Some op) turn
  own_keeps p op turn sound apart own slots_left left =
      record {
        last = own_last turn.whats own;
        stale = λ slots are. own_stale p op turn.whats slots apart;
        filled = λ slots are m filled told.
            let spared = own_spared p op turn.whats slots m filled own told in
            let h : IsFilled s m filled = are m filled spared.0 in
            let entry : IsSome (s.entry h.noted.proc h.noted.page) = has_entry (s.entry h.noted.proc h.noted.page) h.frame (sound.1.mirror_entry m h.frame h.noted h.is h.slot) in
            let apart_from : empties_of p op h.noted.proc h.noted.page ≡ false = ap (λ (q : ℕ). empties_of p op q h.noted.page) h.proc ∙ ap (empties_of p op filled.proc) h.page ∙ spared.1 in
            record {
              frame = h.frame;
              noted = h.noted;
              is = slots_left.left m (leaves op m apart)
                  ∙ ap (λ (frame : Option ℕ). left_in turn.events frame (s.slot m)) h.is
                  ∙ ap (left_in turn.events (Some h.frame)) h.slot
                  ∙ left h.frame h.noted entry apart_from;
              slot = slots_left.notes m (leaves op m apart) ∙ h.slot;
              proc = h.proc;
              page = h.page;
            };
      }

  no_wait : (slots : Slots) (op : Op) (waiting : Waiting) → IsStaleAt slots (Some op) (Wait waiting)
  no_wait slots (Look mirror word) waiting = tt
  no_wait slots op waiting = tt

-- ---- the turn of whoever has an operation, or none

module _ (s : CoreState) (script : ScriptValue) (a : ℕ) (place : Place) (sound : IsSound s) (maps : (p page : ℕ) (e : Entry) → s.entry p page ≡ Some e → IsSome (s.right p page)) where
  any_keeps : (op : Option Op) (waiting : Option Waiting) → ((o : Op) → op ≡ Some o → IsOp o) → FitsAt s (doer_of script a op) op place → EmptiesSlots s op (core_turn_by s (doer_of script a op) place.far op waiting) → Own op waiting (core_turn_by s (doer_of script a op) place.far op waiting).whats → KeepsSlots s (doer_of script a op).proc op (core_turn_by s (doer_of script a op) place.far op waiting)
  any_keeps None waiting range fits left own = record { last = tt; stale = λ slots are. (tt, tt); filled = λ slots are. are }
  any_keeps (Some op) (Some waiting) range fits left own = record { last = tt; stale = λ slots are. (no_wait s slots op waiting, tt); filled = λ slots are. are }
  any_keeps (Some (Mirror mirror q page)) None range fits left own =
      let who : Doer = doer_of script a (Some (Mirror mirror q page)) in
      with_tables s who place.far (Mirror mirror q page) (λ t. mirror_by t a q mirror q page (birth_for t.birth who))
  any_keeps (Some (Look mirror word)) None range fits left own =
      let who : Doer = doer_of script a (Some (Look mirror word)) in
      subst (KeepsSlots s who.proc (Some (Look mirror word))) (sym (idle_own s who place.far (Look mirror word) tt)) (look_by s a who.proc mirror word (birth_for s.birth who))
  any_keeps (Some op) None range fits left own =
      let who : Doer = doer_of script a (Some op) in
      own_keeps s who.proc op (turn_of s who place.far op) sound tt (own tt) left (spares s who place op (range op refl) fits (maps who.proc))

-- each entry is of a mapped page
entry_mapped : (s : CoreState) (p page : ℕ) (e : Entry) → IsSound s → (s.birth p ≡ failed → s.entry p page ≡ None) → s.entry p page ≡ Some e → (rights : Option Rights) → s.right p page ≡ rights → IsSome rights
entry_mapped s p page e sound emptied is None right =
    absurd (let gone : s.entry p page ≡ None = emptied (sound.1.entry_mapped p page e (sound.1.whole_entry p page e is) right) in cc)
entry_mapped s p page e sound emptied is (Some rights) right = refl

turn_keeps : (script : ScriptValue) → IsScript script → (r : RunState) → Stands script r → (a : ℕ) → KeepsSlots r.core (doer_of script a (op_in script r a)).proc (op_in script r a) (core_turn_in script r a)
turn_keeps script valid r h a =
    any_keeps r.core script a (r.places a) h.sound (λ p page e is. entry_mapped r.core p page e h.sound (h.emptied p page) is (r.core.right p page) refl)
    (op_in script r a) (waiting_in script r a)
    (λ o is. op_is_op script valid a (r.places a).answered o is)
    (h.fits a) (slots_left script valid r h a) (turn_own (taken script valid r h a).shape)

-- so no look of turns is stale through a slot that is told to be filled
pub stale_turns : Law → (script : ScriptValue) → IsScript script → (turns : List Turn) (number : ℕ) (r end : RunState) (slots : Slots) → Stands script r → AreFilled slots r.core → AreTurns script r turns end → AreStaleIn script r.places slots (journal_of number r.places turns)
stale_turns law script valid [] number r end slots h filled are = tt
stale_turns law script valid (turn ∷ turns) number r end slots h filled are =
    let a = turn.actor in
    let op : Option Op = op_in script r a in
    let whats : List What = (core_turn_in script r a).whats in
    let next : RunState = run_after script r a in
    let keeps = turn_keeps script valid r h a in
    let now : Slots = slots_of_turn (doer_of script a op).proc op whats slots in
    let later = stale_turns law script valid turns (number + 1) next end now (stands_on law script valid r h a) (keeps.filled slots filled) are.1 in
    let both = stale_append script number a ((r.places a).answered + 1) op whats (journal_of (number + 1) next.places turns) r.places slots refl keeps.last (keeps.stale slots filled) later in
    subst (λ (t : Turn). AreStaleIn script r.places slots (journal_of number r.places (t ∷ turns))) (sym are.0) both

-- At the start none is told to be filled.
pub stale_first : Law → Starts → (script : ScriptValue) (turns : List Turn) (end : RunState) → IsScript script → AreTurns script (run_start script) turns end → AreStaleSeen script (journal_of 1 (λ _. first_place) turns)
stale_first law starts script turns end valid are =
    stale_turns law script valid turns 1 (run_start script) end (λ m. None) (stands_first starts script valid) (λ m filled told. absurd (cc told)) are
