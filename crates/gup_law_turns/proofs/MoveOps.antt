-- The turns of a move can be done, have their shapes, and lead where the next turn can go on.
use Rattle.std.proofs.Common.{◌≡◌, ℕ, ◌+◌, ◌<◌, ◌==◌, Bool, true, false, if◌then◌else◌, IsSome, IsTrue, List, [], ◌∷◌, Option, Some, None, refl, ap, sym, subst, ◌∙◌, arith}
use Rattle.std.proofs.lemmas.Bool.Decides.{nat_tests}
use Rattle.gup_base.specs.declared.entry.Allowed.{Allowed}
use Rattle.gup_base.specs.declared.entry.Allowed.TheVariants.{Any, Only}
use Rattle.gup_base.specs.declared.entry.Entry.{Entry}
use Rattle.gup_base.specs.declared.entry.Rights.{Rights}
use Rattle.gup_base.specs.declared.entry.Zone.{Zone}
use Rattle.gup_base.specs.declared.entry.Zone.TheVariants.{Movable, Normal}
use Rattle.gup_plain.specs.Denial.{load_denial}
use Rattle.gup_plain.specs.declared.answer.Answer.{Answer}
use Rattle.gup_plain.specs.declared.answer.Answer.TheVariants as answers
use Rattle.gup_plain.specs.declared.note.What.{What}
use Rattle.gup_plain.specs.declared.note.What.TheVariants.{Silent, Done}
use Rattle.gup_script.specs.declared.op.Op.{Op}
use Rattle.gup_script.specs.declared.op.Op.TheVariants.{Move}
use Rattle.gup_spec_events.specs.State.{CoreState, Job, idle, moving, Counted, unread, one, more, plain_of}
use Rattle.gup_spec_events.specs.Event.{MayPrepare, IsAllowed, counted_as, happens, take_frame, put_entry, clear_entry, count_moved, place_frame, restore_entry}
use Rattle.gup_law_base.specs.Sound.{keeps_table}
use Rattle.gup_spec_journal.specs.Denial.{op_denial}
use Rattle.gup_spec_journal.specs.Follows.{refuses}
use Rattle.gup_spec_journal.specs.Place.{Place, Doer}
use Rattle.gup_spec_journal.specs.Plain.{IsAnswerOf, pages_got}
use Rattle.gup_spec_turns.specs.CoreTurn.{answers_with, free_in}
use Rattle.gup_spec_turns.specs.Cost.{move_turns}
use Rattle.gup_spec_turns.specs.JobPlace.{JobPlace, job_place, place_in, IsCount, IsMoving, KeepsFrame, unbegun, moving_page}
use Rattle.gup_spec_turns.specs.MoveTurns.{clear_turn, count_turn, restores, place_turn, counted_turn, move_turn}
use Rattle.gup_spec_turns.proofs.TurnParts.{clear_turn_by}
use Rattle.gup_spec_turns.specs.Turn.{op_turn}
use Rattle.gup_spec_turns.specs.Waits.{move_locks, waits_for_locks, locks_needed}
use Rattle.gup_law_turns.proofs.CalmStates.{taking, putting, clearing, counting_moved, placing_frame, restoring}
use Rattle.gup_law_turns.proofs.FaultTurns.{no_mirror_at}
use Rattle.gup_law_turns.proofs.PageSearches.{free_in_free, free_in_allowed}
use Rattle.gup_law_turns.proofs.Puts.{put_same, put2_same}
use Rattle.gup_law_turns.proofs.ShownTurns.{IsOpen, IsTurned, shape_idle, table_free}
use Rattle.gup_law_turns.proofs.TurnShapes.{references_of, FitsMove, has_begun, FitsOp, IsAtOnce, TurnOf, refused, cleared_entry, counted_frame, placed_frame, found_no_frame, found_busy, unprepared, at_rest}

-- what is made of a count
pub counted_is : (count : ℕ) → IsCount (counted_as count)
counted_is count = go (count == 1) refl
  where
    apart : (count == 1) ≡ false → count ≡ 1 → ⊥
    apart other same = grind (arith, nat_tests)

    go : (b : Bool) → (count == 1) ≡ b → IsCount (if b then one else more count)
    go true is = tt
    go false is = apart is

pub counted_read : (count : ℕ) → counted_as count ≡ unread → ⊥
counted_read count = go (count == 1)
  where
    go : (b : Bool) → (if b then one else more count) ≡ unread → ⊥
    go true is = cc is
    go false is = cc is

counted_left : (page : ℕ) (e : Entry) (count : ℕ) → move_turns (moving_page page e (counted_as count)) ≡ 1
counted_left page e count = go (count == 1)
  where
    go : (b : Bool) → move_turns (moving_page page e (if b then one else more count)) ≡ 1
    go true = refl
    go false = refl

-- a mapped page is not denied
mapped_free : (right : Option Rights) → IsSome right → load_denial right ≡ None
mapped_free None some = absurd (cc some)
mapped_free (Some rights) some = refl

module _ (s : CoreState) (who : Doer) (proc page : ℕ) (zone : Zone) (place : Place) (h : IsOpen s who.actor who.proc) (untaken : s.taken who.actor ≡ []) (silent : place.had ≡ false) where
  abbrev a : ℕ
  a = who.actor

  abbrev p : ℕ
  p = who.proc

  abbrev op : Op
  op = Move proc page zone

  -- its shape, by the places where it stands before and after the turn
  shape_from : (t : CoreState) (whats : List What) (from to : JobPlace) → place_in s a ≡ from → place_in t a ≡ to → TurnOf (plain_of s) (references_of s) who place op from whats to → TurnOf (plain_of s) (references_of s) who place op (place_in s a) whats (place_in t a)
  shape_from t whats from to before behind shape =
      subst (λ (x : JobPlace). TurnOf (plain_of s) (references_of s) who place op x whats (place_in t a)) (sym before)
      (subst (λ (y : JobPlace). TurnOf (plain_of s) (references_of s) who place op from whats y) (sym behind) shape)

  stands_at : (t : CoreState) (job : Job) → t.job a ≡ job → place_in t a ≡ job_place job (t.prepared a)
  stands_at t job is = ap (λ (j : Job). job_place j (t.prepared a)) is

  fits_on : (t : CoreState) (next : Place) (job : Job) → t.job a ≡ job → t.taken a ≡ [] → next.had ≡ false → FitsMove t a p page zone next job → FitsOp t who op next
  fits_on t next job is none had fits = (none, had, subst (FitsMove t a p page zone next) (sym is) fits)

  -- the first turn

  module _ (job : s.job a ≡ idle) (first : place.far ≡ 0) where
    answers_first : (answer : Answer) → IsTrue (refuses op answer) → IsAtOnce op answer → IsAnswerOf (op_denial (plain_of s) (references_of s) who (pages_got (plain_of s) a) op) answer → IsTurned s who place op (answers_with answer)
    answers_first answer refusal at_once right =
        record {
          done = record { kinds = tt; can = tt; rest = h.rest; told = refl };
          shape = shape_idle s s who place op (Done answer ∷ []) job job (refused op answer (first, silent) refusal at_once tt right tt);
          next = (job, untaken);
          pin = tt;
        }

    clears : (e : Entry) → s.table p ≡ None → IsSome (s.right p page) → s.entry p page ≡ Some e → IsTurned s who place op (clear_turn a p page zone (Some e))
    clears e free mapped there =
        let none : s.prepared a ≡ None = unprepared s a h.rest job in
        let t : CoreState = happens s (clear_entry a p page e (Only zone)) in
        let behind : t.job a ≡ moving p page e (Only zone) unread = put_same a (moving p page e (Only zone) unread) s.job in
        let stands : IsMoving t a p page = record { birth = h.birth; mapped = mapped; absent = put2_same p page None s.entry; locked = put_same p (Some a) s.table } in
        record {
          done = record {
            kinds = (clearing tt page e (Only zone), tt);
            can = ((h.birth, free, (job, none), h.rest.owed, there, no_mirror_at s p page h.calm), tt);
            rest = at_rest t a none h.rest.owed;
            told = refl;
          };
          shape = shape_from t (Silent ∷ []) unbegun (moving_page page e unread) (stands_at s idle job) (stands_at t (moving p page e (Only zone) unread) behind) (cleared_entry proc page zone e (first, silent));
          next = fits_on t (record place { far = place.far + 1 }) (moving p page e (Only zone) unread) behind untaken silent (omega (arith, first), (refl, refl, refl, tt, stands));
          pin = tt;
        }

    clears_by : (entry : Option Entry) → s.entry p page ≡ entry → s.table p ≡ None → IsSome (s.right p page) → IsTurned s who place op (clear_turn a p page zone entry)
    clears_by None is free mapped = answers_first answers.Untouched refl tt (subst (λ (d : Option Answer). IsAnswerOf d answers.Untouched) (sym (mapped_free (s.right p page) mapped)) refl)
    clears_by (Some e) is free mapped = clears e free mapped is

    first_by : (right : Option Rights) → s.right p page ≡ right → s.table p ≡ None → IsTurned s who place op (clear_turn_by right a p page zone (s.entry p page))
    first_by None is free = answers_first answers.Missing refl tt (rw is refl)
    first_by (Some rights) is free = clears_by (s.entry p page) refl free (rw is refl)

  -- the turns after it

  module _ (e : Entry) (begun : 0 < place.far) (at : IsMoving s a p page) where
    abbrev allowed : Allowed
    allowed = Only zone

    undenied : op_denial (plain_of s) (references_of s) who (pages_got (plain_of s) a) op ≡ None
    undenied = mapped_free (s.right p page) at.mapped

    keeps_none : (count : Counted) → s.job a ≡ moving p page e allowed count → s.prepared a ≡ None
    keeps_none count job = subst (λ (j : Job). KeepsFrame j (s.prepared a)) job h.rest.prepared

    counts : place.far + 2 ≡ 3 → s.job a ≡ moving p page e allowed unread → IsTurned s who place op (count_turn a p page e allowed (s.count e.frame))
    counts far job =
        let count : ℕ = s.count e.frame in
        let none = keeps_none unread job in
        let t : CoreState = happens s (count_moved a p page e allowed count) in
        let behind : t.job a ≡ moving p page e allowed (counted_as count) = put_same a (moving p page e allowed (counted_as count)) s.job in
        let stands : IsMoving t a p page = record { birth = at.birth; mapped = at.mapped; absent = at.absent; locked = at.locked } in
        record {
          done = record {
            kinds = (counting_moved tt page e allowed count, tt);
            can = ((job, refl), tt);
            rest = at_rest t a none h.rest.owed;
            told = refl;
          };
          shape = shape_from t (Silent ∷ []) (moving_page page e unread) (moving_page page e (counted_as count)) (stands_at s (moving p page e allowed unread) job) (stands_at t (moving p page e allowed (counted_as count)) behind) (counted_frame proc page zone e (counted_as count) (counted_read count) begun);
          next = fits_on t (record place { far = place.far + 1 }) (moving p page e allowed (counted_as count)) behind untaken silent (let left = counted_left page e count in omega (arith, far, left), (refl, refl, refl, counted_is count, stands));
          pin = tt;
        }

    puts_back : (count : Counted) (answer : Answer) → (count ≡ unread → ⊥) → s.job a ≡ moving p page e allowed count → TurnOf (plain_of s) (references_of s) who place op (moving_page page e count) (Done answer ∷ []) unbegun → IsTurned s who place op (restores a p page e allowed count answer)
    puts_back count answer read job shape =
        let none = keeps_none count job in
        let t : CoreState = happens s (restore_entry a p page e allowed count) in
        let behind : t.job a ≡ idle = put_same a idle s.job in
        record {
          done = record {
            kinds = (restoring tt page e allowed count, tt);
            can = ((job, read, none), tt);
            rest = at_rest t a none h.rest.owed;
            told = refl;
          };
          shape = shape_from t (Done answer ∷ []) (moving_page page e count) unbegun (stands_at s (moving p page e allowed count) job) (stands_at t idle behind) shape;
          next = (behind, untaken);
          pin = tt;
        }

    places : (f : ℕ) → free_in s allowed ≡ Some f → s.job a ≡ moving p page e allowed one → IsTurned s who place op (place_turn a p page e allowed (Some f))
    places f found job =
        let none = keeps_none one job in
        let free = free_in_free s allowed f found in
        let t : CoreState = happens s (take_frame a f) in
        let u : CoreState = happens t (place_frame a p page f e allowed) in
        let v : CoreState = happens u (put_entry a e.frame) in
        let behind : v.job a ≡ idle = put_same a idle s.job in
        record {
          done = record {
            kinds = (taking f, (placing_frame tt page f e allowed, (putting e.frame, tt)));
            can = (
              (subst MayPrepare (sym job) tt, none, free.0, free.1),
              (
                (job, put_same a (Some f) s.prepared, h.rest.owed, allows (free_in_allowed s allowed f found)),
                (put_same a (Some e.frame) s.owed, tt),
              ),
            );
            rest = at_rest v a (put_same a None t.prepared) (put_same a None u.owed);
            told = refl;
          };
          shape = shape_from v (Done answers.Plain ∷ []) (moving_page page e one) unbegun (stands_at s (moving p page e allowed one) job) (stands_at v idle behind) (placed_frame proc page zone e begun undenied);
          next = (behind, untaken);
          pin = tt;
        }
      where
        -- taking a frame moves no zone
        allows : IsAllowed s allowed f → IsAllowed (happens s (take_frame a f)) allowed f
        allows = by allowed
          where
            by : (zones : Allowed) → IsAllowed s zones f → IsAllowed (happens s (take_frame a f)) zones f
            by Any is = is
            by (Only Movable) is = is
            by (Only Normal) is = is

    places_by : (free : Option ℕ) → free_in s allowed ≡ free → s.job a ≡ moving p page e allowed one → IsTurned s who place op (place_turn a p page e allowed free)
    places_by None found job = puts_back one answers.NoFrame (λ same. cc same) job (found_no_frame proc page zone e begun undenied)
    places_by (Some f) found job = places f found job

    goes_on : (count : Counted) → place.far + move_turns (moving_page page e count) ≡ 3 → s.job a ≡ moving p page e allowed count → IsTurned s who place op (counted_turn s a p page e allowed count)
    goes_on unread far job = counts far job
    goes_on one far job = places_by (free_in s allowed) refl job
    goes_on (more count) far job = puts_back (more count) (answers.Busy count) (λ same. cc same) job (found_busy proc page zone e count begun undenied)

  move_by : (job : Job) → s.job a ≡ job → FitsMove s a p page zone place job → waits_for_locks (move_locks job) a (s.structure p) (s.table p) ≡ None → IsTurned s who place op (move_turn s a p page zone job)
  move_by idle is fits free = first_by is fits (s.right p page) refl (table_free s a p h.sound (ap keeps_table is) free)
  move_by (moving q g e allowed count) is fits free =
      let stands = fits.1 in
      goes_on e (has_begun g place.far e count fits.0) stands.4 count fits.0 (is ∙ ap (λ (k : ℕ). moving k g e allowed count) stands.0 ∙ ap (λ (k : ℕ). moving p k e allowed count) stands.1 ∙ ap (λ (zones : Allowed). moving p page e zones count) stands.2)
  move_by job is fits free = absurd fits

pub move_turned : (s : CoreState) (who : Doer) (proc page : ℕ) (zone : Zone) (place : Place) → IsOpen s who.actor who.proc → FitsOp s who (Move proc page zone) place → waits_for_locks (locks_needed s who.actor who.proc place.far (Move proc page zone)) who.actor (s.structure who.proc) (s.table who.proc) ≡ None → IsTurned s who place (Move proc page zone) (op_turn s who.actor who.proc who.slots place.far (Move proc page zone))
move_turned s who proc page zone place h fits free =
    move_by s who proc page zone place h fits.0 fits.1 (s.job who.actor) refl fits.2 free
