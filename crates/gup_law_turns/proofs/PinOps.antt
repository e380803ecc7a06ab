-- The turns of a pin can be done, have their shapes, and lead where the next turn can go on.
use Rattle.std.proofs.Common.{◌≡◌, if◌then◌else◌, ℕ, ◌+◌, ◌<◌, ◌≤◌, ◌==◌, Bool, true, false, nat_lt, ◌&&◌, IsTrue, IsSome, List, [], ◌∷◌, ◌++◌, length, get_or, slice_get, All, Option, Some, None, Ok, Err, ◌⊎◌, inl, inr, refl, ap, sym, subst, ◌∙◌, zero, suc, arith, length-append}
use Rattle.std.proofs.lemmas.Bool.Decides.{nat_tests}
use Rattle.std.proofs.lemmas.List.{length-map}
use Rattle.std.proofs.lemmas.Option.{slice_get_within, slice_get-get_or}
use Rattle.gup_base.specs.declared.entry.Allowed.{Allowed}
use Rattle.gup_base.specs.declared.entry.Allowed.TheVariants.{Any, Only}
use Rattle.gup_base.specs.declared.entry.Entry.{Entry}
use Rattle.gup_base.specs.declared.entry.Rights.{Rights}
use Rattle.gup_base.specs.declared.entry.Zone.TheVariants.{Movable, Normal}
use Rattle.gup_base.specs.declared.entry.Want.{Want}
use Rattle.gup_plain.specs.Denial.{pin_denial}
use Rattle.gup_plain.specs.Event.{IsHeldBy}
use Rattle.gup_plain.specs.State.{born, Handle, unmade, held}
use Rattle.gup_plain.specs.declared.answer.Answer.{Answer}
use Rattle.gup_plain.specs.declared.answer.Answer.TheVariants as answers
use Rattle.gup_plain.specs.declared.event.PlainEvent.TheVariants as events
use Rattle.gup_plain.specs.declared.note.What.{What}
use Rattle.gup_plain.specs.declared.note.What.TheVariants.{Silent, Event, Done}
use Rattle.gup_script.specs.Limits.{most_pinned}
use Rattle.gup_script.specs.Valid.{IsOp}
use Rattle.gup_script.specs.declared.op.Op.TheVariants.{Pin}
use Rattle.gup_spec_events.specs.State.{CoreState, Taken, Job, idle, moving, Counted, unread, one, more, pending_of, plain_of}
use Rattle.gup_spec_events.specs.Event.{CoreEvent, Can, AreUnlocked, MayPrepare, IsAllowed, IsNormal, counted_as, entry_of, happens, IsUntaken, AreAlike, taken_frames, objects_taken, writes_taken, take_frame, put_entry, raise_flag, pin_page, make_handle, clear_entry, count_moved, place_frame, restore_entry, run}
use Rattle.gup_spec_events.specs.Fault.{Fault}
use Rattle.gup_spec_events.specs.Invariant.{AllCan}
use Rattle.gup_law_events.specs.Law.{all_told}
use Rattle.gup_spec_journal.specs.Follows.{refuses, EndsPin}
use Rattle.gup_spec_journal.specs.Place.{Place, Doer}
use Rattle.gup_spec_journal.specs.Denial.{op_denial}
use Rattle.gup_spec_journal.specs.Plain.{IsAnswerOf, pages_got, refusal_by_cause}
use Rattle.gup_spec_turns.specs.JobPlace.{JobPlace, job_place, place_in, KeepsFrame, unbegun, moving_page}
use Rattle.gup_spec_turns.specs.PinPlace.{HasTaken, IsTakenPage, IsMovingPin, turns_over, most_over}
use Rattle.gup_law_turns.specs.Standing.{StandsHandle}
use Rattle.gup_spec_turns.specs.CoreTurn.{free_in, frame_for, zones_of, entry_in}
use Rattle.gup_spec_turns.specs.PinTurns.{cause_of, pin_fault, moves_first, pins, pins_in, clears_behind, clears_or_pins, pins_behind, ends_pin, ends_moved, pins_moved, moved_turn, pin_turn_by}
use Rattle.gup_script.specs.declared.op.Op.{Op}
use Rattle.gup_spec_turns.specs.Cost.{pin_turns, walk_turns}
use Rattle.gup_spec_turns.specs.MoveTurns.{count_turn}
use Rattle.gup_spec_turns.specs.Waits.{waits_for_locks, both_locks}
use Rattle.gup_law_turns.proofs.CalmStates.{of_pages, of_pin, AreTurnEvents, taking, putting, raising, pinning, making, clearing, counting_moved, placing_frame, restoring}
use Rattle.gup_law_turns.proofs.FaultTurns.{IsReady, Allows, MayFault, may_fault, IsFree, RefusesPage, missing, forbidden, no_frame, LeadsTo, pin_leads, no_mirror_at, differ}
use Rattle.gup_law_turns.proofs.KeptPages.{pages_leave}
use Rattle.gup_law_turns.proofs.PageSearches.{free_in_free, free_in_allowed, frame_for_free}
use Rattle.gup_law_turns.proofs.Puts.{put_same, put_other, put2_same}
use Rattle.gup_law_turns.proofs.TurnShapes.{references_of, FitsOp, TurnOf, refused, pinned_page, pinned_all, pinned_short, AtRest, unprepared, Rests, FitsPin, TriesAt, IsSlowTurn, refused_slowly, RefusesAt, IsAtOnce, cleared_page, counted_cleared, lacked_frame, found_unmovable, at_rest}
use Rattle.gup_law_turns.proofs.ShownTurns.{IsOpen, MakesPin, IsTurned, both_free, kinds_behind, told_behind, idle_place}
use Rattle.gup_law_turns.proofs.PinPace.{FewOver, none_over, room_page, room_behind, room_move, few_idle, few_moved}
use Rattle.gup_law_turns.proofs.KeptParts.{stays_calm}
use Rattle.gup_law_turns.proofs.KeptMarks.{moved_counted}
use Rattle.gup_law_turns.proofs.MoveOps.{counted_is, counted_read}
use Rattle.gup_spec_events.proofs.Runs.{run_behind, can_behind}

-- lists by index

-- what is in a list with an element more is in the list, or is that element
at_either : {X : Type 0} (xs : List X) (x : X) (k : ℕ) (y : X) → slice_get (xs ++ x ∷ []) k ≡ Some y → (slice_get xs k ≡ Some y) ⊎ ((k ≡ length xs) × (y ≡ x))
at_either [] x zero y is = inr (refl, cc)
at_either [] x (suc k) y is = absurd (cc)
at_either (z ∷ zs) x zero y is = inl is
at_either (z ∷ zs) x (suc k) y is = elim (at_either zs x k y is) [ inl e ↦ inl e | inr e ↦ inr (omega (arith, e.0), e.1) ]

all_from : {X : Type 0} (P : X → Type 0) (xs : List X) → ((k : ℕ) (x : X) → slice_get xs k ≡ Some x → P x) → All P xs
all_from P xs each k d within = each k (get_or xs k d) (slice_get-get_or xs k d within)

longer_some : {X : Type 0} (xs : List X) (x : X) → xs ++ x ∷ [] ≡ [] → ⊥
longer_some [] x is = absurd (cc)
longer_some (y ∷ ys) x is = absurd (cc)

-- the pages that a pin has taken

pub none_taken : (taken : List Taken) → length taken ≡ 0 → taken ≡ []
none_taken [] none = refl
none_taken (t ∷ taken) some = absurd (omega (arith, some))

some_taken : (taken : List Taken) (got : ℕ) → length taken ≡ suc got → taken ≡ [] → ⊥
some_taken [] got many is = omega (arith, many)
some_taken (t ∷ taken) got many is = absurd (cc)

-- the first of them
first_taken : (taken : List Taken) (got : ℕ) → length taken ≡ suc got → (t : Taken) × (slice_get taken 0 ≡ Some t)
first_taken [] got many = absurd (omega (arith, many))
first_taken (t ∷ taken) got many = (t, refl)

pub untaken_next : (p page far : ℕ) (want : Want) (taken : List Taken) → HasTaken p page want far taken → IsUntaken taken (page + far)
untaken_next p page far want taken h =
    all_from (λ (t : Taken). t.page ≡ page + far → ⊥) taken
    (λ k t is same. let at = h.each k t is in let below = slice_get_within taken k t is in omega (arith, at.1, below, h.many, same))

alike_taken : (p page far : ℕ) (want : Want) (taken : List Taken) → HasTaken p page want far taken → AreAlike taken want.write want.long
alike_taken p page far want taken h =
    all_from (λ (t : Taken). (t.write ≡ want.write) × (t.long ≡ want.long)) taken (λ k t is. let at = h.each k t is in (at.2, at.3))

pub one_more : (p page far : ℕ) (want : Want) (taken : List Taken) (new : Taken) → HasTaken p page want far taken → IsTakenPage p page want far new → HasTaken p page want (far + 1) (taken ++ new ∷ [])
one_more p page far want taken new h is_new =
    record {
      many = let longer = length-append taken (new ∷ []) in let many = h.many in omega (arith, longer, many);
      each = λ k t is. by_place k t (at_either taken new k t is);
    }
  where
    last_page : (k : ℕ) (t : Taken) → k ≡ far → t ≡ new → IsTakenPage p page want k t
    last_page k t place same =
        subst (λ (j : ℕ). IsTakenPage p page want j t) (sym place) (subst (λ (x : Taken). IsTakenPage p page want far x) (sym same) is_new)

    by_place : (k : ℕ) (t : Taken) → (slice_get taken k ≡ Some t) ⊎ ((k ≡ length taken) × (t ≡ new)) → IsTakenPage p page want k t
    by_place k t (inl before) = h.each k t before
    by_place k t (inr last) = last_page k t (last.0 ∙ h.many) last.1

-- the pin that is made of pages taken has them all
pub held_whole : (a : ℕ) (write : Bool) (taken : List Taken) → 0 < length taken → length taken ≤ most_pinned → (handle : Handle) (pinned : List ℕ) → handle ≡ held a (objects_taken taken) write → pinned ≡ taken_frames taken → IsHeldBy handle a × StandsHandle (λ b. 0) pinned handle
held_whole a write taken some few handle pinned made has =
    let objects = length-map taken (λ (t : Taken). t.object) in
    let frames = length-map taken (λ (t : Taken). t.frame) in
    subst (λ (x : Handle). IsHeldBy x a × StandsHandle (λ b. 0) pinned x) (sym made)
    (subst (λ (fs : List ℕ). IsHeldBy (held a (objects_taken taken) write) a × StandsHandle (λ b. 0) fs (held a (objects_taken taken) write)) (sym has)
    (refl, (omega (arith, frames, some), omega (arith, objects, few), omega (arith, objects, frames))))

counted_over : (q g : ℕ) (e : Entry) (allowed : Allowed) (count : ℕ) → turns_over (moving q g e allowed (counted_as count)) ≡ 2
counted_over q g e allowed count = go (count == 1)
  where
    go : (b : Bool) → turns_over (moving q g e allowed (if b then one else more count)) ≡ 2
    go true = refl
    go false = refl

-- what a pin may have is mapped
undenied_mapped : (write : Bool) (right : Option Rights) → pin_denial write right ≡ None → IsSome right
undenied_mapped true None free = absurd (cc free)
undenied_mapped true (Some rights) free = refl
undenied_mapped false None free = absurd (cc free)
undenied_mapped false (Some rights) free = refl

-- a page that isn't moved first is of the normal zone, if it is for long
normal_by : (long below : Bool) (movable f : ℕ) → nat_lt f movable ≡ below → (long && below) ≡ false → long ≡ true → movable ≤ f
normal_by true true movable f less none is = absurd (cc none)
normal_by true false movable f less none is = grind (arith, nat_tests)
normal_by false below movable f less none is = absurd (cc is)

-- one that is, is of a pin that is for long
long_by : (long below : Bool) → (long && below) ≡ true → long ≡ true
long_by true below is = refl
long_by false below is = absurd (cc is)

-- a long pin has frames of the normal zone alone
zones_long : (want : Want) → want.long ≡ true → zones_of want ≡ Only Normal
zones_long want long = rw long refl

-- an answer that refuses a page ends a pin

refuses_pin : (handle page n : ℕ) (want : Want) (fast : Bool) {answer : Answer} → RefusesPage answer → IsTrue (refuses (Pin handle page n want fast) answer)
refuses_pin handle page n want fast missing = refl
refuses_pin handle page n want fast forbidden = refl
refuses_pin handle page n want fast no_frame = refl

at_once : (handle page n : ℕ) (want : Want) (fast : Bool) {answer : Answer} → RefusesPage answer → IsAtOnce (Pin handle page n want fast) answer
at_once handle page n want fast missing = tt
at_once handle page n want fast forbidden = tt
at_once handle page n want fast no_frame = tt

ends_with : {answer : Answer} (want : Want) → RefusesPage answer → EndsPin want (cause_of answer) × (refusal_by_cause (cause_of answer) ≡ answer) × RefusesAt want unbegun (refusal_by_cause (cause_of answer))
ends_with want missing = (tt, refl, tt)
ends_with want forbidden = (tt, refl, tt)
ends_with want no_frame = (tt, refl, tt)

-- the events before a page is pinned, or refused, and what they lead to
record IsPinLed (s : CoreState) (a p handle : ℕ) (es : List CoreEvent) : Type 0 where
  kinds : AreTurnEvents a p p (of_pin handle) es
  can : AllCan s es
  rest : AtRest (run s es) a
  job : (run s es).job a ≡ idle
  told : all_told es ≡ []
  handles : (run s es).handle ≡ s.handle
  pinned : (run s es).pinned ≡ s.pinned
  taken : (run s es).taken ≡ s.taken

-- where the page is ready
record IsPinReady (s : CoreState) (a p handle page : ℕ) (want : Want) (es : List CoreEvent) : Type 0 where
  led : IsPinLed s a p handle es
  birth : (run s es).birth p ≡ born
  flag : (run s es).has_pinned p ≡ true
  right : (run s es).right p page ≡ s.right p page
  allows : Allows (run s es) p page want.write

module _ (s : CoreState) (who : Doer) (place : Place) (h : IsOpen s who.actor who.proc) (handle page n : ℕ) (want : Want) (fast : Bool) (range : IsOp (Pin handle page n want fast)) (fits : FitsOp s who (Pin handle page n want fast) place) (within : length (s.taken who.actor) < n) (has : HasTaken who.proc page want (length (s.taken who.actor)) (s.taken who.actor)) (slow : IsSlowTurn fast place.far) where
  abbrev a : ℕ
  a = who.actor

  abbrev p : ℕ
  p = who.proc

  abbrev op : Op
  op = Pin handle page n want fast

  -- the pages that it has
  abbrev got : ℕ
  got = length (s.taken a)

  -- the turns of its walk, if it walks
  abbrev walked : ℕ
  walked = walk_turns fast n

  -- the page of this turn
  abbrev here : ℕ
  here = page + got

  -- it is denied at the page after those that are pending, which are those that it has taken
  got_here : pages_got (plain_of s) a ≡ got
  got_here = length-map (s.taken a) pending_of

  denied_here : pin_denial want.write (s.right p here) ≡ None → op_denial (plain_of s) (references_of s) who (pages_got (plain_of s) a) op ≡ None
  denied_here undenied = subst (λ (k : ℕ). pin_denial want.write (s.right p (page + k)) ≡ None) (sym got_here) undenied

  answered_here : (answer : Answer) → IsAnswerOf (pin_denial want.write (s.right p here)) answer → IsAnswerOf (op_denial (plain_of s) (references_of s) who (pages_got (plain_of s) a) op) answer
  answered_here answer right = subst (λ (k : ℕ). IsAnswerOf (pin_denial want.write (s.right p (page + k))) answer) (sym got_here) right

  -- its shape, by the places where it stands before and after the turn
  shape_from : (t : CoreState) (whats : List What) (from to : JobPlace) → place_in s a ≡ from → place_in t a ≡ to → TurnOf (plain_of s) (references_of s) who place op from whats to → TurnOf (plain_of s) (references_of s) who place op (place_in s a) whats (place_in t a)
  shape_from t whats from to before behind shape =
      subst (λ (x : JobPlace). TurnOf (plain_of s) (references_of s) who place op x whats (place_in t a)) (sym before)
      (subst (λ (y : JobPlace). TurnOf (plain_of s) (references_of s) who place op from whats y) (sym behind) shape)

  stands_at : (t : CoreState) (job : Job) → t.job a ≡ job → place_in t a ≡ job_place job (t.prepared a)
  stands_at t job is = ap (λ (j : Job). job_place j (t.prepared a)) is

  fits_on : (t : CoreState) (next : Place) (taken : List Taken) (job : Job) → t.taken a ≡ taken → t.job a ≡ job → FitsPin t a p handle page n want fast next taken job → FitsOp t who op next
  fits_on t next taken job has is fits_then =
      subst (λ (ts : List Taken). FitsPin t a p handle page n want fast next ts (t.job a)) (sym has)
      (subst (λ (j : Job). FitsPin t a p handle page n want fast next taken j) (sym is) fits_then)

  -- what is made of the handle of pages that are taken
  makes_it : (t made : CoreState) → made ≡ happens t (make_handle a handle) → 0 < length (t.taken a) → length (t.taken a) ≤ n → MakesPin s made a op
  makes_it t made is some few =
      let most : n ≤ most_pinned = range.1 in
      let makes : CoreState = happens t (make_handle a handle) in
      subst (λ (x : CoreState). MakesPin s x a op) (sym is)
      (inr (held_whole a (writes_taken (t.taken a)) (t.taken a) some (omega (arith, few, most)) (makes.handle handle) (makes.pinned handle) (put_same handle (held a (objects_taken (t.taken a)) (writes_taken (t.taken a))) t.handle) (put_same handle (taken_frames (t.taken a)) t.pinned)))

  -- These events come first; so many turns of the page are over.
  module _ (es : List CoreEvent) (led : IsPinLed s a p handle es) (from : JobPlace) (before : place_in s a ≡ from) (over : ℕ) (few : FewOver want.long over) (least : got + over ≤ place.far) (most : place.far ≤ walked + pin_turns want.long got + over) where
    abbrev t : CoreState
    t = run s es

    same_taken : t.taken a ≡ s.taken a
    same_taken = ap (λ (f : ℕ → List Taken). f a) led.taken

    handle_unmade : t.handle handle ≡ unmade
    handle_unmade = ap (λ (f : ℕ → Handle). f handle) led.handles ∙ fits.yet

    -- the page is refused, where the pin has others
    abbrev ended : CoreState
    ended = happens t (make_handle a handle)

    ends_short : (k : ℕ) (answer : Answer) → got ≡ suc k → EndsPin want (cause_of answer) → RefusesAt want from (refusal_by_cause (cause_of answer)) → IsAnswerOf (pin_denial want.write (s.right p here)) (refusal_by_cause (cause_of answer)) → IsTurned s who place op (ends_pin es a handle n (suc k) answer)
    ends_short k answer is end refusal right =
        let same : run s (es ++ make_handle a handle ∷ []) ≡ ended = run_behind s es (make_handle a handle ∷ []) in
        let many : length (t.taken a) ≡ got = ap (λ (ts : List Taken). length ts) same_taken in
        let some : t.taken a ≡ [] → ⊥ = some_taken (t.taken a) k (many ∙ is) in
        let right_then : IsAnswerOf (op_denial (plain_of s) (references_of s) who (suc k) op) (refusal_by_cause (cause_of answer)) = subst (λ (j : ℕ). IsAnswerOf (pin_denial want.write (s.right p (page + j))) (refusal_by_cause (cause_of answer))) is right in
        record {
          done = record {
            kinds = kinds_behind a p p (of_pin handle) es (make_handle a handle ∷ []) led.kinds (making handle refl, tt);
            can = can_behind s es (make_handle a handle ∷ []) led.can ((led.job, handle_unmade, some), tt);
            rest = subst (λ (x : CoreState). AtRest x a) (sym same) (record { prepared = led.rest.prepared; owed = led.rest.owed });
            told = told_behind es (make_handle a handle ∷ []) led.told;
          };
          shape = shape_from (run s (es ++ make_handle a handle ∷ [])) (Event (events.PinOk a handle) ∷ Done (answers.Short (suc k) n (cause_of answer)) ∷ []) from unbegun before (idle_place (run s (es ++ make_handle a handle ∷ [])) a (ap (λ (x : CoreState). x.job a) same ∙ led.job))
              (pinned_short handle page n want fast (suc k) (cause_of answer) from (fits.had_some (omega (arith, is))) (got_here ∙ is) (omega arith) (omega (arith, is, within)) end refusal right_then);
          next = subst (λ (x : CoreState). Rests x a) (sym same) (led.job, put_same a [] t.taken);
          pin = makes_it t (run s (es ++ make_handle a handle ∷ [])) same (omega (arith, many, is)) (omega (arith, many, within));
        }

    -- or has none
    ends_none : (answer : Answer) → got ≡ 0 → TurnOf (plain_of s) (references_of s) who place op from (Done answer ∷ []) unbegun → IsTurned s who place op (ends_pin es a handle n 0 answer)
    ends_none answer is shape =
        record {
          done = record { kinds = led.kinds; can = led.can; rest = led.rest; told = led.told };
          shape = shape_from t (Done answer ∷ []) from unbegun before (idle_place t a led.job) shape;
          next = (led.job, none_taken (t.taken a) (ap (λ (ts : List Taken). length ts) same_taken ∙ is));
          pin = inl (ap (λ (f : ℕ → Handle). f handle) led.handles, ap (λ (f : ℕ → List ℕ). f handle) led.pinned);
        }

    -- After these events the page is ready.
    module _ (ready : IsPinReady s a p handle here want es) where
      abbrev entry : Entry
      entry = ready.allows.entry

      -- it is pinned, if it is of the normal zone or not for long
      module _ (normal : want.long ≡ true → IsNormal t entry.frame) (tries : TriesAt want from) where
        abbrev pinning_it : CoreEvent
        pinning_it = pin_page a p here entry want.write want.long

        abbrev new : Taken
        new = record { proc = p; page = here; frame = entry.frame; object = t.object p here; write = want.write; long = want.long }

        has_taken : HasTaken p page want got (t.taken a)
        has_taken = subst (HasTaken p page want got) (sym same_taken) has

        can_pin : Can t pinning_it
        can_pin = (
          ready.birth,
          ready.allows.free,
          (led.job, unprepared t a led.rest led.job),
          ready.flag,
          ready.allows.there,
          (ready.allows.marked, ready.allows.may, normal),
          untaken_next p page got want (t.taken a) has_taken,
          alike_taken p page got want (t.taken a) has_taken,
        )

        abbrev u : CoreState
        u = happens t pinning_it

        now_taken : u.taken a ≡ t.taken a ++ new ∷ []
        now_taken = put_same a (t.taken a ++ new ∷ []) t.taken

        more_taken : HasTaken p page want (got + 1) (t.taken a ++ new ∷ [])
        more_taken = one_more p page got want (t.taken a) new has_taken (refl, refl, refl, refl)

        many_then : length (t.taken a ++ new ∷ []) ≡ got + 1
        many_then = more_taken.many

        -- a page that isn't the last
        pins_one : got + 1 < n → pin_denial want.write (s.right p here) ≡ None → IsTurned s who place op (pins_behind es a p handle here n want false entry)
        pins_one less undenied =
            let same : run s (es ++ pinning_it ∷ []) ≡ u = run_behind s es (pinning_it ∷ []) in
            let many = many_then in
            record {
              done = record {
                kinds = kinds_behind a p p (of_pin handle) es (pinning_it ∷ []) led.kinds (pinning handle refl here entry want.write want.long, tt);
                can = can_behind s es (pinning_it ∷ []) led.can (can_pin, tt);
                rest = subst (λ (x : CoreState). AtRest x a) (sym same) (record { prepared = led.rest.prepared; owed = led.rest.owed });
                told = told_behind es (pinning_it ∷ []) led.told;
              };
              shape = shape_from (run s (es ++ pinning_it ∷ [])) (Event (events.PinTry a p here want.write) ∷ []) from unbegun before (idle_place (run s (es ++ pinning_it ∷ [])) a (ap (λ (x : CoreState). x.job a) same ∙ led.job)) (page_shape less undenied);
              next = subst (λ (x : CoreState). FitsOp x who op (record place { far = place.far + 1; had = true })) (sym same)
                  (fits_on u (record place { far = place.far + 1; had = true }) (t.taken a ++ new ∷ []) idle now_taken led.job (record {
                    had_none = λ never none. absurd (omega (arith, many, none));
                    had_some = λ some. refl;
                    least = omega (arith, many, least);
                    most = subst (λ (k : ℕ). place.far + 1 ≤ walked + pin_turns want.long k + 0) (sym many) (room_behind walked want.long got place.far over few most);
                    within = omega (arith, many, less);
                    yet = handle_unmade;
                    has = subst (λ (k : ℕ). HasTaken p page want k (t.taken a ++ new ∷ [])) (sym many) more_taken;
                    flag = λ walks some. ready.flag;
                    at = tt;
                  }));
              pin = subst (λ (x : CoreState). MakesPin s x a op) (sym same)
                  (inl (ap (λ (f : ℕ → Handle). f handle) led.handles, ap (λ (f : ℕ → List ℕ). f handle) led.pinned));
            }
          where
            page_shape : got + 1 < n → pin_denial want.write (s.right p here) ≡ None → TurnOf (plain_of s) (references_of s) who place op from (Event (events.PinTry a p here want.write) ∷ []) unbegun
            page_shape less undenied =
                subst (λ (k : ℕ). TurnOf (plain_of s) (references_of s) who place op from (Event (events.PinTry a p (page + k) want.write) ∷ []) unbegun) got_here
                (pinned_page handle page n want fast from slow tries (subst (λ (k : ℕ). k + 1 < n) (sym got_here) less) (room_page walked want.long got n place.far over few most less) (denied_here undenied))

        abbrev making_it : List CoreEvent
        making_it = pinning_it ∷ make_handle a handle ∷ []

        abbrev made : CoreState
        made = happens u (make_handle a handle)

        -- the last one
        pins_last : got + 1 ≡ n → pin_denial want.write (s.right p here) ≡ None → IsTurned s who place op (pins_behind es a p handle here n want true entry)
        pins_last last undenied =
            let same : run s (es ++ making_it) ≡ made = run_behind s es making_it in
            let many : length (u.taken a) ≡ got + 1 = ap (λ (ts : List Taken). length ts) now_taken ∙ many_then in
            record {
              done = record {
                kinds = kinds_behind a p p (of_pin handle) es making_it led.kinds (pinning handle refl here entry want.write want.long, (making handle refl, tt));
                can = can_behind s es making_it led.can (can_pin, ((led.job, handle_unmade, λ none. longer_some (t.taken a) new (sym now_taken ∙ none)), tt));
                rest = subst (λ (x : CoreState). AtRest x a) (sym same) (record { prepared = led.rest.prepared; owed = led.rest.owed });
                told = told_behind es making_it led.told;
              };
              shape = shape_from (run s (es ++ making_it)) (Event (events.PinTry a p here want.write) ∷ Event (events.PinOk a handle) ∷ Done (answers.Pinned n) ∷ []) from unbegun before (idle_place (run s (es ++ making_it)) a (ap (λ (x : CoreState). x.job a) same ∙ led.job))
                  (subst (λ (k : ℕ). TurnOf (plain_of s) (references_of s) who place op from (Event (events.PinTry a p (page + k) want.write) ∷ Event (events.PinOk a handle) ∷ Done (answers.Pinned n) ∷ []) unbegun) got_here
                  (pinned_all handle page n want fast from slow tries (ap (λ (k : ℕ). k + 1) got_here ∙ last) (denied_here undenied)));
              next = subst (λ (x : CoreState). Rests x a) (sym same) (led.job, put_same a [] u.taken);
              pin = makes_it u (run s (es ++ making_it)) same (omega (arith, many)) (omega (arith, many, last));
            }

        pins_by : (last : Bool) → (got + 1 == n) ≡ last → pin_denial want.write (s.right p here) ≡ None → IsTurned s who place op (pins_behind es a p handle here n want last entry)
        pins_by true test undenied = pins_last (grind (arith, nat_tests)) undenied
        pins_by false test undenied = pins_one (grind (arith, nat_tests, within)) undenied

  -- A page that is to be moved first is cleared.
  module _ (es : List CoreEvent) (ready : IsPinReady s a p handle here want es) (job : s.job a ≡ idle) (long : want.long ≡ true) (undenied : pin_denial want.write (s.right p here) ≡ None) where
    abbrev cleared_in : CoreState
    cleared_in = run s es

    abbrev gone : Entry
    gone = ready.allows.entry

    abbrev clearing_it : CoreEvent
    clearing_it = clear_entry a p here gone (zones_of want)

    abbrev behind_it : CoreState
    behind_it = happens cleared_in clearing_it

    abbrev moves : Job
    moves = moving p here gone (zones_of want) unread

    clears : IsTurned s who place op (clears_behind es a p here want gone)
    clears =
        let led = ready.led in
        let same : run s (es ++ clearing_it ∷ []) ≡ behind_it = run_behind s es (clearing_it ∷ []) in
        let none = unprepared cleared_in a led.rest led.job in
        let behind : behind_it.job a ≡ moves = put_same a moves cleared_in.job in
        let free : pin_denial want.write (behind_it.right p here) ≡ None = ap (pin_denial want.write) ready.right ∙ undenied in
        let calm = stays_calm s a p p (of_pin handle) es led.kinds (λ m fills. cc fills) h.calm in
        let least : got + 0 ≤ place.far = subst (λ (j : Job). got + turns_over j ≤ place.far) job fits.least in
        let most : place.far ≤ walked + pin_turns want.long got + 0 = subst (λ (j : Job). place.far ≤ most_over fast want.long n got j) job fits.most in
        let page_then : IsMovingPin behind_it a p here want gone = record {
          long = long;
          moving = record { birth = ready.birth; mapped = undenied_mapped want.write (behind_it.right p here) free; absent = put2_same p here None cleared_in.entry; locked = put_same p (Some a) cleared_in.table };
          unforked = ready.allows.free.0;
          flag = ready.flag;
          undenied = free;
          marked = ready.allows.marked;
          may = ready.allows.may;
        } in
        record {
          done = record {
            kinds = kinds_behind a p p (of_pin handle) es (clearing_it ∷ []) led.kinds (clearing tt here gone (zones_of want), tt);
            can = can_behind s es (clearing_it ∷ []) led.can ((ready.birth, ready.allows.free.1, (led.job, none), led.rest.owed, ready.allows.there, no_mirror_at cleared_in p here calm), tt);
            rest = subst (λ (x : CoreState). AtRest x a) (sym same) (at_rest behind_it a none led.rest.owed);
            told = told_behind es (clearing_it ∷ []) led.told;
          };
          shape = shape_from (run s (es ++ clearing_it ∷ [])) (Silent ∷ []) unbegun (moving_page here gone unread) (idle_place s a job) (ap (λ (x : CoreState). place_in x a) same ∙ stands_at behind_it moves behind)
              (cleared_page handle page n want fast here gone long slow (λ never no_page. none_over fast want.long n got place.far never (sym got_here ∙ no_page) most) (subst (λ (k : ℕ). k < n) (sym got_here) within) (room_move walked want.long got n place.far 0 long (omega arith) most within));
          next = subst (λ (x : CoreState). FitsOp x who op (record place { far = place.far + 1 })) (sym same)
              (fits_on behind_it (record place { far = place.far + 1 }) (s.taken a) moves (ap (λ (f : ℕ → List Taken). f a) led.taken) behind (record {
                had_none = fits.had_none;
                had_some = fits.had_some;
                least = omega (arith, least);
                most = omega (arith, most);
                within = within;
                yet = ap (λ (f : ℕ → Handle). f handle) led.handles ∙ fits.yet;
                has = has;
                flag = λ walks some. ready.flag;
                at = (refl, refl, refl, tt, page_then);
              }));
          pin = subst (λ (x : CoreState). MakesPin s x a op) (sym same)
              (inl (ap (λ (f : ℕ → Handle). f handle) led.handles, ap (λ (f : ℕ → List ℕ). f handle) led.pinned));
        }

  -- Where it is in the middle of no page: after these events the page is pinned, or cleared.
  module _ (job : s.job a ≡ idle) where
    idle_least : got + 0 ≤ place.far
    idle_least = subst (λ (j : Job). got + turns_over j ≤ place.far) job fits.least

    idle_most : place.far ≤ walked + pin_turns want.long got + 0
    idle_most = subst (λ (j : Job). place.far ≤ most_over fast want.long n got j) job fits.most

    -- by the entry that the page has then
    pins_or_clears : (es : List CoreEvent) (ready : IsPinReady s a p handle here want es) (last : Bool) → (got + 1 == n) ≡ last → pin_denial want.write (s.right p here) ≡ None → (moves : Bool) → moves_first (run s es) want ready.allows.entry ≡ moves → IsTurned s who place op (clears_or_pins moves es a p handle here n want last ready.allows.entry)
    pins_or_clears es ready last test undenied true moves =
        clears es ready job (long_by want.long (nat_lt ready.allows.entry.frame (run s es).movable) moves) undenied
    pins_or_clears es ready last test undenied false moves =
        pins_by es ready.led unbegun (idle_place s a job) 0 (few_idle want.long) idle_least idle_most ready
        (normal_by want.long (nat_lt ready.allows.entry.frame (run s es).movable) (run s es).movable ready.allows.entry.frame refl moves) tt last test undenied

    pins_here : (es : List CoreEvent) → IsPinReady s a p handle here want es → (last : Bool) → (got + 1 == n) ≡ last → pin_denial want.write (s.right p here) ≡ None → IsTurned s who place op (pins s es a p handle here n want last)
    pins_here es ready last test undenied =
        subst (λ (e : Entry). IsTurned s who place op (pins_in (run s es) es a p handle here n want last e)) (sym (ap entry_in ready.allows.there))
        (pins_or_clears es ready last test undenied (moves_first (run s es) want ready.allows.entry) refl)

    -- the first page: the flag's event comes before those of the fault

    abbrev raised : CoreState
    raised = happens s (raise_flag a p)

    raised_may : MayFault raised a p
    raised_may =
        let may = may_fault s a p h job in
        record {
          rest = record { prepared = may.rest.prepared; owed = may.rest.owed };
          calm = record { unmirrored = may.calm.unmirrored };
          birth = may.birth;
          job = may.job;
          counted = may.counted;
          marked = may.marked;
        }

    ready_first : (es : List CoreEvent) → IsReady raised a p es → Allows (run raised es) p here want.write → IsPinReady s a p handle here want (raise_flag a p ∷ es)
    ready_first es ready allows =
        let left = pages_leave raised a p p es (ready.kinds of_pages) in
        record {
          led = record {
            kinds = (raising handle refl, ready.kinds (of_pin handle));
            can = (h.birth, ready.can);
            rest = ready.rest;
            job = ready.job;
            told = ready.told;
            handles = left.handle;
            pinned = left.pinned;
            taken = left.taken;
          };
          birth = ready.birth;
          flag = ap (λ (f : ℕ → Bool). f p) left.has_pinned ∙ put_same p true s.has_pinned;
          right = ap (λ (f : ℕ → ℕ → Option Rights). f p here) ready.right;
          allows = allows;
        }

    led_raised : IsPinLed s a p handle (raise_flag a p ∷ [])
    led_raised =
        record {
          kinds = (raising handle refl, tt);
          can = (h.birth, tt);
          rest = record { prepared = h.rest.prepared; owed = h.rest.owed };
          job = job;
          told = refl;
          handles = refl;
          pinned = refl;
          taken = refl;
        }

    refused_first : (answer : Answer) → fast ≡ false → got ≡ 0 → RefusesPage answer → IsAnswerOf (pin_denial want.write (s.right p here)) answer → IsTurned s who place op (ends_pin (raise_flag a p ∷ []) a handle n 0 answer)
    refused_first answer never first refusal right =
        ends_none (raise_flag a p ∷ []) led_raised unbegun (idle_place s a job) 0 (few_idle want.long) idle_least idle_most answer first
        (refused op answer (none_over fast want.long n got place.far never first idle_most, fits.had_none never first) (refuses_pin handle page n want fast refusal) (at_once handle page n want fast refusal) never (answered_here answer right) tt)

    first_by : (fault : Fault) → fast ≡ false → got ≡ 0 → LeadsTo raised a p here want.write (pin_denial want.write (s.right p here)) fault → IsTurned s who place op (pin_turn_by fault s a p handle here n 0 want false)
    first_by (Err answer) never first to = refused_first answer never first to.0 to.1
    first_by (Ok es) never first to =
        pins_here (raise_flag a p ∷ es) (ready_first es to.1 to.2) (0 + 1 == n) (ap (λ (k : ℕ). k + 1 == n) first) to.0

    -- a later one: the pages that are taken say that the flag is set

    flag_set : (k : ℕ) → got ≡ suc k → s.has_pinned p ≡ true
    flag_set k later =
        let first = first_taken (s.taken a) k later in
        subst (λ (q : ℕ). s.has_pinned q ≡ true) (has.each 0 first.0 first.1).0 (h.sound.1.taken_flag a 0 first.0 first.1)

    ready_later : (es : List CoreEvent) → s.has_pinned p ≡ true → IsReady s a p es → Allows (run s es) p here want.write → IsPinReady s a p handle here want es
    ready_later es set ready allows =
        let left = pages_leave s a p p es (ready.kinds of_pages) in
        record {
          led = record {
            kinds = ready.kinds (of_pin handle);
            can = ready.can;
            rest = ready.rest;
            job = ready.job;
            told = ready.told;
            handles = left.handle;
            pinned = left.pinned;
            taken = left.taken;
          };
          birth = ready.birth;
          flag = ap (λ (f : ℕ → Bool). f p) left.has_pinned ∙ set;
          right = ap (λ (f : ℕ → ℕ → Option Rights). f p here) ready.right;
          allows = allows;
        }

    led_none : IsPinLed s a p handle []
    led_none = record { kinds = tt; can = tt; rest = h.rest; job = job; told = refl; handles = refl; pinned = refl; taken = refl }

    refused_later : (k : ℕ) (answer : Answer) → got ≡ suc k → RefusesPage answer → IsAnswerOf (pin_denial want.write (s.right p here)) answer → IsTurned s who place op (ends_pin [] a handle n (suc k) answer)
    refused_later k answer later refusal right =
        let ends = ends_with want refusal in
        ends_short [] led_none unbegun (idle_place s a job) 0 (few_idle want.long) idle_least idle_most k answer later ends.0 ends.2
        (subst (IsAnswerOf (pin_denial want.write (s.right p here))) (sym ends.1) right)

    later_by : (k : ℕ) (fault : Fault) → got ≡ suc k → LeadsTo s a p here want.write (pin_denial want.write (s.right p here)) fault → IsTurned s who place op (pin_turn_by fault s a p handle here n (suc k) want fast)
    later_by k (Err answer) later to = refused_later k answer later to.0 to.1
    later_by k (Ok es) later to =
        pins_here es (ready_later es (flag_set k later) to.1 to.2) (suc k + 1 == n) (ap (λ (j : ℕ). j + 1 == n) later) to.0

    -- the first page of one that has walked, which has set the flag

    walked_before : fast ≡ true → 0 < place.far
    walked_before walks = subst (λ (b : Bool). IsSlowTurn b place.far) walks slow

    refused_behind : (answer : Answer) → fast ≡ true → got ≡ 0 → RefusesPage answer → IsAnswerOf (pin_denial want.write (s.right p here)) answer → IsTurned s who place op (ends_pin [] a handle n 0 answer)
    refused_behind answer walks first refusal right =
        ends_none [] led_none unbegun (idle_place s a job) 0 (few_idle want.long) idle_least idle_most answer first
        (subst (λ (b : Bool). TurnOf (plain_of s) (references_of s) who place (Pin handle page n want b) unbegun (Done answer ∷ []) unbegun) (sym walks)
        (refused_slowly handle page n want answer (walked_before walks) (got_here ∙ first) (refuses_pin handle page n want true refusal) (known refusal) (at_once handle page n want true refusal) (answered_here answer right)))
      where
        known : {x : Answer} → RefusesPage x → x ≡ answers.Unborn → ⊥
        known missing is = cc is
        known forbidden is = cc is
        known no_frame is = cc is

    behind_by : (fault : Fault) → fast ≡ true → got ≡ 0 → LeadsTo s a p here want.write (pin_denial want.write (s.right p here)) fault → IsTurned s who place op (pin_turn_by fault s a p handle here n 0 want true)
    behind_by (Err answer) walks first to = refused_behind answer walks first to.0 to.1
    behind_by (Ok es) walks first to =
        pins_here es (ready_later es (fits.flag walks (walked_before walks)) to.1 to.2) (0 + 1 == n) (ap (λ (k : ℕ). k + 1 == n) first) to.0

    -- the frame that its turn takes, of the zones that the pin may have
    abbrev frame : Option ℕ
    frame = frame_for s p here (zones_of want)

    is_free : IsFree s p here frame
    is_free = frame_for_free s p here (zones_of want)

    none_by : (walks : Bool) → fast ≡ walks → got ≡ 0 → AreUnlocked s p → IsTurned s who place op (pin_turn_by (pin_fault s a p here want.write frame) s a p handle here n 0 want walks)
    none_by false never is free = first_by (pin_fault s a p here want.write frame) never is (pin_leads raised a p raised_may free here frame is_free want.write)
    none_by true walks is free = behind_by (pin_fault s a p here want.write frame) walks is (pin_leads s a p (may_fault s a p h job) free here frame is_free want.write)

    pub pin_by : (k : ℕ) → got ≡ k → waits_for_locks both_locks a (s.structure p) (s.table p) ≡ None → IsTurned s who place op (pin_turn_by (pin_fault s a p here want.write frame) s a p handle here n k want fast)
    pin_by zero is free = none_by fast refl is (both_free s a p h.sound job free)
    pin_by (suc k) is free = later_by k (pin_fault s a p here want.write frame) is (pin_leads s a p (may_fault s a p h job) (both_free s a p h.sound job free) here frame is_free want.write)

  -- Where it has cleared this page.
  module _ (e : Entry) (over : ℕ) (least : got + over ≤ place.far) (most : place.far ≤ walked + pin_turns want.long got + over) (at : IsMovingPin s a p here want e) where
    abbrev allowed : Allowed
    allowed = zones_of want

    keeps_none : (count : Counted) → s.job a ≡ moving p here e allowed count → s.prepared a ≡ None
    keeps_none count job = subst (λ (j : Job). KeepsFrame j (s.prepared a)) job h.rest.prepared

    counts : over ≡ 1 → s.job a ≡ moving p here e allowed unread → IsTurned s who place op (count_turn a p here e allowed (s.count e.frame))
    counts once job =
        let count : ℕ = s.count e.frame in
        let none = keeps_none unread job in
        let t : CoreState = happens s (count_moved a p here e allowed count) in
        let behind : t.job a ≡ moving p here e allowed (counted_as count) = put_same a (moving p here e allowed (counted_as count)) s.job in
        let was = at.moving in
        let two = counted_over p here e allowed count in
        let stands : IsMovingPin t a p here want e = record {
          long = at.long;
          moving = record { birth = was.birth; mapped = was.mapped; absent = was.absent; locked = was.locked };
          unforked = at.unforked;
          flag = at.flag;
          undenied = at.undenied;
          marked = at.marked;
          may = at.may;
        } in
        record {
          done = record {
            kinds = (counting_moved tt here e allowed count, tt);
            can = ((job, refl), tt);
            rest = at_rest t a none h.rest.owed;
            told = refl;
          };
          shape = shape_from t (Silent ∷ []) (moving_page here e unread) (moving_page here e (counted_as count)) (stands_at s (moving p here e allowed unread) job) (stands_at t (moving p here e allowed (counted_as count)) behind)
              (counted_cleared handle page n want fast here e (counted_as count) (counted_read count) at.long (omega (arith, least, once)) (subst (λ (k : ℕ). k < n) (sym got_here) within) (room_move walked want.long got n place.far over at.long (omega (arith, once)) most within));
          next = fits_on t (record place { far = place.far + 1 }) (s.taken a) (moving p here e allowed (counted_as count)) refl behind (record {
            had_none = fits.had_none;
            had_some = fits.had_some;
            least = omega (arith, least, once, two);
            most = omega (arith, most, once, two);
            within = within;
            yet = fits.yet;
            has = has;
            flag = λ walks some. at.flag;
            at = (refl, refl, refl, counted_is count, stands);
          });
          pin = inl (refl, refl);
        }

    led_restored : (count : Counted) → (count ≡ unread → ⊥) → s.job a ≡ moving p here e allowed count → IsPinLed s a p handle (restore_entry a p here e allowed count ∷ [])
    led_restored count read job =
        let none = keeps_none count job in
        let t : CoreState = happens s (restore_entry a p here e allowed count) in
        record {
          kinds = (restoring tt here e allowed count, tt);
          can = ((job, read, none), tt);
          rest = at_rest t a none h.rest.owed;
          job = put_same a idle s.job;
          told = refl;
          handles = refl;
          pinned = refl;
          taken = refl;
        }

    -- the page is refused, and its entry put back
    refuses_moved : (count : Counted) (answer : Answer) → over ≡ 2 → (count ≡ unread → ⊥) → s.job a ≡ moving p here e allowed count → EndsPin want (cause_of answer) → RefusesAt want (moving_page here e count) (refusal_by_cause (cause_of answer)) → IsAnswerOf None (refusal_by_cause (cause_of answer)) → (got ≡ 0 → TurnOf (plain_of s) (references_of s) who place op (moving_page here e count) (Done answer ∷ []) unbegun) → (k : ℕ) → got ≡ k → IsTurned s who place op (ends_moved a p handle here n k want e count answer)
    refuses_moved count answer twice read job end refusal right shape zero is =
        ends_none (restore_entry a p here e allowed count ∷ []) (led_restored count read job) (moving_page here e count) (stands_at s (moving p here e allowed count) job) over (subst (FewOver want.long) (sym twice) (few_moved want.long at.long)) least most answer is (shape is)
    refuses_moved count answer twice read job end refusal right shape (suc k) is =
        ends_short (restore_entry a p here e allowed count ∷ []) (led_restored count read job) (moving_page here e count) (stands_at s (moving p here e allowed count) job) over (subst (FewOver want.long) (sym twice) (few_moved want.long at.long)) least most k answer is end refusal
        (subst (λ (d : Option Answer). IsAnswerOf d (refusal_by_cause (cause_of answer))) (sym at.undenied) right)

    undenied : op_denial (plain_of s) (references_of s) who (pages_got (plain_of s) a) op ≡ None
    undenied = denied_here at.undenied

    begun : over ≡ 2 → 0 < place.far
    begun twice = omega (arith, twice, least)

    -- or it is placed in another frame, and pinned there
    module _ (f : ℕ) (found : free_in s allowed ≡ Some f) (job : s.job a ≡ moving p here e allowed one) where
      abbrev took : CoreState
      took = happens s (take_frame a f)

      abbrev placed : CoreState
      placed = happens took (place_frame a p here f e allowed)

      abbrev gave : CoreState
      gave = happens placed (put_entry a e.frame)

      abbrev placing_it : List CoreEvent
      placing_it = take_frame a f ∷ place_frame a p here f e allowed ∷ put_entry a e.frame ∷ []

      is_unused : (f < s.movable + s.normal) × (s.count f ≡ 0)
      is_unused = free_in_free s allowed f found

      other_frame : (f == e.frame) ≡ false
      other_frame = differ s.count f e.frame is_unused.1 (moved_counted s a p here e allowed one h.sound job)

      may_take : IsAllowed s allowed f → IsAllowed took allowed f
      may_take = by allowed
        where
          by : (zones : Allowed) → IsAllowed s zones f → IsAllowed took zones f
          by Any is = is
          by (Only Movable) is = is
          by (Only Normal) is = is

      is_normal : want.long ≡ true → IsNormal gave f
      is_normal long = subst (λ (zones : Allowed). IsAllowed s zones f) (zones_long want long) (free_in_allowed s allowed f found)

      marked_there : gave.mark f ≡ true
      marked_there =
          let old : Bool = if placed.count e.frame == 1 then false else placed.mark e.frame in
          put_other e.frame f old placed.mark other_frame
          ∙ put_same f (took.mark e.frame) took.mark
          ∙ put_other f e.frame false s.mark (flipped other_frame)
          ∙ at.marked
        where
          flipped : (f == e.frame) ≡ false → (e.frame == f) ≡ false
          flipped apart = grind (arith, nat_tests)

      led_placed : IsPinLed s a p handle placing_it
      led_placed =
          record {
            kinds = (taking f, (placing_frame tt here f e allowed, (putting e.frame, tt)));
            can = (
              (subst MayPrepare (sym job) tt, keeps_none one job, is_unused.0, is_unused.1),
              (
                (job, put_same a (Some f) s.prepared, h.rest.owed, may_take (free_in_allowed s allowed f found)),
                (put_same a (Some e.frame) s.owed, tt),
              ),
            );
            rest = at_rest gave a (put_same a None took.prepared) (put_same a None placed.owed);
            job = put_same a idle s.job;
            told = refl;
            handles = refl;
            pinned = refl;
            taken = refl;
          }

      ready_placed : IsPinReady s a p handle here want placing_it
      ready_placed =
          record {
            led = led_placed;
            birth = at.moving.birth;
            flag = at.flag;
            right = refl;
            allows = record {
              free = (at.unforked, put_same p None s.table);
              entry = entry_of f e.writable;
              there = put2_same p here (Some (entry_of f e.writable)) s.entry;
              marked = marked_there;
              may = at.may;
            };
          }

      places : over ≡ 2 → IsTurned s who place op (pins_behind placing_it a p handle here n want (got + 1 == n) (entry_of f e.writable))
      unfolding ready_placed
      places twice =
          pins_by placing_it led_placed (moving_page here e one) (stands_at s (moving p here e allowed one) job) over (subst (FewOver want.long) (sym twice) (few_moved want.long at.long)) least most ready_placed is_normal at.long (got + 1 == n) refl at.undenied

    places_by : (free : Option ℕ) → free_in s allowed ≡ free → over ≡ 2 → s.job a ≡ moving p here e allowed one → IsTurned s who place op (pins_moved a p handle here n got want e free)
    places_by None found twice job =
        refuses_moved one answers.NoFrame twice (λ same. cc same) job tt at.long refl
        (λ none. lacked_frame handle page n want fast here e at.long (begun twice) (got_here ∙ none) undenied) got refl
    places_by (Some f) found twice job = places f found job twice

    pub moved_by : (count : Counted) → over ≡ turns_over (moving p here e allowed count) → s.job a ≡ moving p here e allowed count → IsTurned s who place op (moved_turn s a p handle here n got want e count)
    moved_by unread is job = counts is job
    moved_by one is job = places_by (free_in s allowed) refl is job
    moved_by (more count) is job =
        refuses_moved (more count) (answers.Unmovable count) is (λ same. cc same) job at.long (at.long, refl) refl
        (λ none. found_unmovable handle page n want fast here e count at.long (begun is) (got_here ∙ none) undenied) got refl
