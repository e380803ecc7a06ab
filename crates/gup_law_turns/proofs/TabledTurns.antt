-- A turn that changes page tables before it and after it is what it is without that: it can happen, it has its shape, and the actor
-- stands right after it.
use Rattle.std.proofs.Common.{◌≡◌, ℕ, ◌||◌, Bool, true, false, if◌then◌else◌, List, [], ◌∷◌, ◌++◌, Option, Some, None, ◌⊎◌, refl, sym, ap, ◌∙◌, subst}
use Rattle.gup_law_turns.proofs.CopiedPages.{IsCopyJob, IsCopying}
use Rattle.gup_plain.specs.State.{Noted}
use Rattle.gup_plain.specs.declared.note.What.{What}
use Rattle.gup_script.specs.declared.op.Op.{Op}
use Rattle.gup_spec_events.specs.State.{CoreState, forking, copying, plain_of}
use Rattle.gup_spec_events.specs.Event.{CoreEvent, has_tables, told, run}
use Rattle.gup_spec_events.specs.Invariant.{AllCan}
use Rattle.gup_spec_events.proofs.Runs.{run_behind, can_behind}
use Rattle.gup_law_base.specs.Sound.{IsSoundBy, IsSound}
use Rattle.gup_law_events.specs.Law.{with_told, all_told}
use Rattle.gup_law_tables.specs.Standing.{IsButForTables}
use Rattle.gup_spec_journal.specs.Place.{Place, Doer, birth_for}
use Rattle.gup_spec_turns.specs.CoreTurn.{CoreTurn}
use Rattle.gup_spec_turns.specs.Emptying.{is_stale, left_in, invalidate}
use Rattle.gup_spec_turns.specs.JobPlace.{JobPlace, place_in}
use Rattle.gup_law_turns.specs.Slots.{EmptiesSlots}
use Rattle.gup_law_turns.proofs.EmptiedTurns.{fits_beside, next_beside}
use Rattle.gup_law_turns.proofs.ShownTurns.{FitsNext, MakesPin, kinds_behind, told_behind}
use Rattle.gup_law_turns.proofs.StandingStates.{IsTaken}
use Rattle.gup_law_turns.proofs.TableLists.{AreTableEvents, tables_only, untold, kinds_are, invalidates_none, invalidate_behind}
use Rattle.gup_law_turns.proofs.TurnShapes.{FitsAt, TurnAt, AtRest, child_of, strand_of, references_of}

-- two states that are the same but for tables, either way
pub but_for_sym : (s t : CoreState) → IsButForTables s t → IsButForTables t s
but_for_sym s t same = sym (ap (λ (x : CoreState). record x { free_table = s.free_table; place = s.place; retired = s.retired }) same)

-- in a state with other tables an operation stands where it stands, and notes lead where they do
pub fits_tabled : (s t : CoreState) → IsButForTables s t → (who : Doer) (op : Option Op) (place : Place) → FitsAt s who op place → FitsAt t who op place
fits_tabled s t same who op place h =
    subst (λ (x : CoreState). FitsAt x who op place) (sym same) (fits_beside s.mirrored t.free_table t.place t.retired s who op place h)

next_tabled : (s t : CoreState) → IsButForTables s t → (who : Doer) (op : Option Op) (place : Place) (whats : List What) → FitsNext s who op place whats → FitsNext t who op place whats
next_tabled s t same who op place whats h =
    subst (λ (x : CoreState). FitsNext x who op place whats) (sym same) (next_beside s.mirrored t.free_table t.place t.retired s who op place whats h)

rest_tabled : (s t : CoreState) (a : ℕ) → IsButForTables s t → AtRest s a → AtRest t a
rest_tabled s t a same h =
    subst (λ (x : CoreState). AtRest x a) (sym same) (record { prepared = h.prepared; owed = h.owed })

-- and it is sound
pub sound_tabled : (s t : CoreState) → IsButForTables s t → IsSound s → IsSound t
sound_tabled s t same (v, h) =
    let x : CoreState = record s { free_table = t.free_table; place = t.place; retired = t.retired } in
    let sound : IsSoundBy v x = assumption in
    subst IsSound (sym same) (v, sound)

-- it makes the pin that it makes
made_before : (s t u : CoreState) (a : ℕ) (op : Op) → IsButForTables s t → MakesPin t u a op → MakesPin s u a op
made_before s t u a op same h = by_op op (subst (λ (x : CoreState). MakesPin x u a op) same h)
  where
    by_op : (o : Op) → MakesPin (record s { free_table = t.free_table; place = t.place; retired = t.retired }) u a o → MakesPin s u a o
    by_op o made = made

made_behind : (s t u : CoreState) (a : ℕ) (op : Op) → IsButForTables t u → MakesPin s t a op → MakesPin s u a op
made_behind s t u a op same h = subst (λ (x : CoreState). MakesPin s x a op) (sym same) h

told_ahead : (before es : List CoreEvent) → all_told es ≡ [] → all_told (before ++ es) ≡ all_told before
told_ahead [] es none = none
told_ahead (e ∷ before) es none = ap (with_told (told e)) (told_ahead before es none)

-- tables of a process: the operation's own, or its child's
pub record Shaped (a p c : ℕ) (es : List CoreEvent) : Type 0 where
  pub proc : ℕ
  pub own : (proc ≡ p) ⊎ (proc ≡ c)
  pub are : AreTableEvents a proc es

-- a turn with events of tables before it and after it
abbrev pub with_both : List CoreEvent → CoreTurn → List CoreEvent → CoreTurn
with_both growth turn shrinks = record { events = growth ++ (turn.events ++ shrinks); whats = turn.whats }

module _ (s : CoreState) (a q r : ℕ) (growth : List CoreEvent) (turn : CoreTurn) (shrinks : List CoreEvent) (grown : AreTableEvents a q growth) (shrunk : AreTableEvents a r shrinks) where
  abbrev t : CoreState
  t = run s growth

  abbrev u : CoreState
  u = run t turn.events

  abbrev whole : CoreTurn
  whole = with_both growth turn shrinks

  abbrev end : CoreState
  end = run s whole.events

  -- the two states in between are the start and the end, but for tables
  pub at_first : IsButForTables s t
  at_first = tables_only s a q growth grown

  ran : end ≡ run u shrinks
  ran = run_behind s growth (turn.events ++ shrinks) ∙ run_behind t turn.events shrinks

  pub at_last : IsButForTables u end
  at_last = subst (λ (x : CoreState). IsButForTables u x) (sym ran) (tables_only u a r shrinks shrunk)

  -- no slot is emptied for tables
  stale_alike : (frame : Option ℕ) (noted : Option Noted) → is_stale whole.events frame noted ≡ is_stale turn.events frame noted
  stale_alike None noted = refl
  stale_alike (Some f) None = refl
  stale_alike (Some f) (Some noted) =
      let p = noted.proc in
      let page = noted.page in
      invalidate_behind growth (turn.events ++ shrinks) p page
      ∙ ap (λ (b : Bool). b || invalidate (turn.events ++ shrinks) p page) (invalidates_none a q growth grown p page)
      ∙ invalidate_behind turn.events shrinks p page
      ∙ ap (λ (b : Bool). invalidate turn.events p page || b) (invalidates_none a r shrinks shrunk p page)
      ∙ or_false (invalidate turn.events p page)
    where
      or_false : (b : Bool) → (b || false) ≡ b
      or_false true = refl
      or_false false = refl

  pub left_alike : (frame : Option ℕ) (noted : Option Noted) → left_in whole.events frame noted ≡ left_in turn.events frame noted
  left_alike frame noted = ap (λ (b : Bool). if b then None else frame) (stale_alike frame noted)

-- ---- the whole turn

module _ (s : CoreState) (who : Doer) (place : Place) (op : Op) (growth : List CoreEvent) (turn : CoreTurn) (shrinks : List CoreEvent) (grown : Shaped who.actor who.proc (child_of who.proc (Some op)) growth) (shrunk : Shaped who.actor who.proc (child_of who.proc (Some op)) shrinks) where
  abbrev middle : CoreState
  middle = run s growth

  abbrev later : CoreState
  later = run middle turn.events

  abbrev last : CoreState
  last = run s (with_both growth turn shrinks).events

  same_middle : IsButForTables s middle
  same_middle = at_first s who.actor grown.proc shrunk.proc growth turn shrinks grown.are shrunk.are

  same_end : IsButForTables later last
  same_end = at_last s who.actor grown.proc shrunk.proc growth turn shrinks grown.are shrunk.are

  module _ (can_grow : AllCan s growth) (can_shrink : AllCan later shrinks) (stays : IsCopying later who.actor → shrinks ≡ []) (h : IsTaken middle who place (Some op) None turn) where
    same_first : place_in middle who.actor ≡ place_in s who.actor
    same_first = ap (λ (x : CoreState). place_in x who.actor) same_middle

    same_last : place_in last who.actor ≡ place_in later who.actor
    same_last = ap (λ (x : CoreState). place_in x who.actor) same_end

    shape_first : TurnAt (plain_of s) (references_of s) who place (Some op) None (place_in s who.actor) turn.whats (place_in later who.actor)
    shape_first = subst (λ (x : CoreState). TurnAt (plain_of x) (references_of x) who place (Some op) None (place_in x who.actor) turn.whats (place_in later who.actor)) same_middle h.shape

    pub tabled_taken : IsTaken s who place (Some op) None (with_both growth turn shrinks)
    tabled_taken = record {
      done = record {
        kinds = kinds_behind who.actor who.proc (child_of who.proc (Some op)) (strand_of (Some op)) growth (turn.events ++ shrinks)
            (kinds_are who.actor who.proc (child_of who.proc (Some op)) grown.proc (strand_of (Some op)) growth grown.own grown.are)
            (kinds_behind who.actor who.proc (child_of who.proc (Some op)) (strand_of (Some op)) turn.events shrinks h.done.kinds
            (kinds_are who.actor who.proc (child_of who.proc (Some op)) shrunk.proc (strand_of (Some op)) shrinks shrunk.own shrunk.are));
        can = can_behind s growth (turn.events ++ shrinks) can_grow (can_behind middle turn.events shrinks h.done.can can_shrink);
        rest = rest_tabled later last who.actor same_end h.done.rest;
        told = told_behind growth (turn.events ++ shrinks) (untold who.actor grown.proc growth grown.are)
            ∙ told_ahead turn.events shrinks (untold who.actor shrunk.proc shrinks shrunk.are)
            ∙ h.done.told;
      };
      shape = subst (λ (at : JobPlace). TurnAt (plain_of s) (references_of s) who place (Some op) None (place_in s who.actor) turn.whats at) (sym same_last) shape_first;
      next = next_tabled later last same_end who (Some op) place turn.whats h.next;
      pin = λ o is none birth.
          made_behind s later last who.actor o same_end
          (made_before s middle later who.actor o same_middle (h.pin o is none (ap (λ (x : CoreState). birth_for x.birth who) same_middle ∙ birth)));
      copies = λ b c page word to done job has.
          let own : later.job who.actor ≡ forking b c done (copying page word) = sym (ap (λ (x : CoreState). x.job who.actor) same_end) ∙ job in
          let kept : shrinks ≡ [] = stays (subst IsCopyJob (sym own) tt) in
          ap (λ (x : CoreState). has_tables x c page) (ran s who.actor grown.proc shrunk.proc growth turn shrinks grown.are shrunk.are)
          ∙ ap (λ (es : List CoreEvent). has_tables (run later es) c page) kept
          ∙ h.copies b c page word to done own (sym (ap (λ (x : CoreState). x.prepared who.actor) same_end) ∙ has);
      emptied = λ child page is lost.
          ap (λ (x : CoreState). x.entry child page) same_end ∙ h.emptied child page is (sym (ap (λ (x : CoreState). x.birth child) same_end) ∙ lost);
    }

  pub tabled_slots : EmptiesSlots middle (Some op) turn → EmptiesSlots s (Some op) (with_both growth turn shrinks)
  tabled_slots h = record {
    left = λ m other.
        ap (λ (x : CoreState). x.mirrored m) same_end ∙ h.left m other
        ∙ ap (λ (x : CoreState). left_in turn.events (x.mirrored m) (x.slot m)) same_middle
        ∙ sym (left_alike s who.actor grown.proc shrunk.proc growth turn shrinks grown.are shrunk.are (s.mirrored m) (s.slot m));
    notes = λ m other. ap (λ (x : CoreState). x.slot m) same_end ∙ h.notes m other ∙ ap (λ (x : CoreState). x.slot m) same_middle;
  }
