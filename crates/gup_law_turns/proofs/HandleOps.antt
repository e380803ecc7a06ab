-- The turns that give back, give, take and use a pin can be done, have their shapes, and lead where the next turn can go
-- on. They are of no process.
use Rattle.std.proofs.Common.{◌≡◌, ℕ, ◌+◌, ◌*◌, ◌-◌, ◌/◌, ◌<◌, ◌≤◌, ◌==◌, ◌&&◌, Bool, true, false, IsTrue, List, [], ◌∷◌, ◌++◌, length, take, Option, Some, None, inl, inr, eqb-true, refl, ap, sym, subst, ◌∙◌, zero, suc, length-take-le, arith}
use Rattle.std.proofs.lemmas.Bool.{and_parts}
use Rattle.std.proofs.lemmas.Bool.Decides.{nat_tests}
use Rattle.std.proofs.lemmas.List.Sums.{sum_by-cons}
use Rattle.std.proofs.lemmas.Option.{slice_get-get_or}
use Rattle.std.specs.Prelude.{if◌then◌else◌, nat_lt, nat_le, slice_index}
use Rattle.gup_base.specs.Parts.{Part, words_of, word_at}
use Rattle.gup_plain.specs.Denial.{is_held_by, holder_denial, has_words, has_slots, transfer_denial_by, transfer_denial}
use Rattle.gup_plain.specs.Event.{IsHeldBy, IsGivenTo, may_write, words, given_to, held_by}
use Rattle.gup_plain.specs.State.{Handle, held, given, gone, objects_of}
use Rattle.gup_plain.specs.declared.answer.Answer.{Answer}
use Rattle.gup_plain.specs.declared.answer.Answer.TheVariants as answers
use Rattle.gup_plain.specs.declared.event.PlainEvent.TheVariants as events
use Rattle.gup_plain.specs.declared.note.What.{What}
use Rattle.gup_plain.specs.declared.note.What.TheVariants.{Event, Done}
use Rattle.gup_base.specs.Counts.{most_slots}
use Rattle.gup_script.specs.declared.op.Op.{Op}
use Rattle.gup_script.specs.declared.op.Op.TheVariants.{Unpin, Give, Take, Transfer}
use Rattle.gup_spec_events.specs.State.{CoreState, idle, plain_of}
use Rattle.gup_spec_events.specs.Event.{CoreEvent, Can, CanMove, happens, unpin_page, give_handle, take_handle, move_out, move_in}
use Rattle.gup_law_events.specs.Law.{all_told}
use Rattle.gup_spec_journal.specs.Denial.{op_denial}
use Rattle.gup_spec_journal.specs.Follows.{refuses}
use Rattle.gup_spec_journal.specs.Order.{is_given_to, taking_waits, handle_waits}
use Rattle.gup_spec_journal.specs.Place.{Place, Doer}
use Rattle.gup_spec_journal.specs.Plain.{IsAnswerOf, pages_got}
use Rattle.gup_spec_journal.specs.Thorough.{Passes}
use Rattle.gup_spec_turns.specs.JobPlace.{unbegun}
use Rattle.gup_spec_turns.specs.CoreTurn.{answers_with}
use Rattle.gup_spec_turns.specs.PinTurns.{last_of, but_last, unpinned, unpin_turn, give_turn, take_turn}
use Rattle.gup_spec_turns.proofs.TurnParts.{unpin_turn_by, give_turn_by, transfer_turn_by}
use Rattle.gup_spec_turns.specs.DeviceTurns.{frame_at, moves_value, transfer_turn}
use Rattle.gup_law_turns.proofs.CalmStates.{of_handle, IsHandleEvent, unpinning, giving, taking_over, moving_out, moving_in, handling}
use Rattle.gup_law_turns.proofs.Puts.{put_same, some_same}
use Rattle.gup_law_turns.proofs.TurnShapes.{references_of, AtFirst, HasLeft, FitsOp, TurnOf, refused, gave, took_over, unpinned_page, unpinned_last, moved_word, moved_last, AtRest, Rests, strand_of, IsAtOnce, IsAlwaysSlow}
use Rattle.gup_law_turns.proofs.EventLists.{events_of}
use Rattle.gup_law_turns.proofs.ShownTurns.{IsQuiet, FitsNext, MakesPin, IsTurned, shape_idle}

-- who holds a pin, and to whom one is given

holds : (h : Handle) (a : ℕ) → is_held_by h a ≡ true → IsHeldBy h a
holds (held by objects write) a is = eqb-true by a is
holds h a is = absurd (cc is)

is_given : (h : Handle) (a : ℕ) → is_given_to h a ≡ true → IsGivenTo h a
is_given (given to objects write) a is = eqb-true to a is
is_given h a is = absurd (cc is)

-- a list and its last element
ends_at : (xs : List ℕ) (k : ℕ) → length xs ≡ suc k → xs ≡ take k xs ++ slice_index xs k ∷ []
ends_at [] k many = absurd (omega (arith, many))
ends_at (x ∷ []) zero many = refl
ends_at (x ∷ y ∷ xs) zero many = absurd (omega (arith, many))
ends_at (x ∷ xs) (suc k) many = ap (λ (ys : List ℕ). x ∷ ys) (ends_at xs k (omega (arith, many)))

ends : (xs : List ℕ) → 0 < length xs → xs ≡ but_last xs ++ last_of xs ∷ []
ends xs some = ends_at xs (length xs - 1) (omega (arith, some))

-- where one more is taken off, so many are left
one_less : (xs : List ℕ) → 0 < length xs → length (but_last xs) + 1 ≡ length xs
one_less xs some = let short = length-take-le (length xs - 1) xs (omega arith) in omega (arith, short, some)

-- of a transfer that isn't denied: the actor holds the pin, and may write it, and all its words are in range
undenied_by : (holding outward may fits : Bool) → transfer_denial_by holding outward may fits ≡ None → (holding ≡ true) × (outward ≡ false → may ≡ true) × (fits ≡ true)
undenied_by true true may true is = (refl, (λ inward. absurd (cc inward)), refl)
undenied_by true false true true is = (refl, (λ inward. refl), refl)
undenied_by holding outward may fits is = absurd (cc is)

-- where the pin has all its parts each of its words is one of the pin's
word_within : (pages : ℕ) (parts : List Part) (k : ℕ) → has_words pages parts ≡ true → k < words_of parts → word_at parts k < words * pages
word_within pages [] k has less = absurd (omega (arith, less))
word_within pages (part ∷ parts) k has less =
    let both = and_parts _ _ has in
    go (nat_lt k part.1) refl both.0 (word_within pages parts (k - part.1) both.1)
  where
    go : (here : Bool) → nat_lt k part.1 ≡ here → nat_le (part.0 + part.1) (words * pages) ≡ true → (k - part.1 < words_of parts → word_at parts (k - part.1) < words * pages) → (if here then part.0 + k else word_at parts (k - part.1)) < words * pages
    go true is fits later = grind (arith, nat_tests)
    go false is fits later =
        let all = sum_by-cons (λ (p : Part). p.1) part parts in later (grind (arith, nat_tests, all))

-- and each of its slots one of the store's
in_range : (pages slots slot : ℕ) (parts : List Part) (k : ℕ) → has_words pages parts && has_slots slots slot parts ≡ true → k < words_of parts → (word_at parts k < words * pages) × (slot + k < slots)
in_range pages slots slot parts k is less =
    let both = and_parts _ _ is in
    let fits = both.1 in
    (word_within pages parts k both.0 less, grind (arith, nat_tests))

-- what denies a transfer is a refusal of transfers
denied_by : (handle : ℕ) (outward : Bool) (slot : ℕ) (parts : List Part) (holding may fits : Bool) (answer : Answer) → transfer_denial_by holding outward may fits ≡ Some answer → IsTrue (refuses (Transfer handle outward slot parts) answer)
denied_by handle outward slot parts false may fits answer is =
    subst (λ (x : Answer). IsTrue (refuses (Transfer handle outward slot parts) x)) (some_same is) refl
denied_by handle true slot parts true may true answer is = absurd (cc is)
denied_by handle true slot parts true may false answer is =
    subst (λ (x : Answer). IsTrue (refuses (Transfer handle true slot parts) x)) (some_same is) refl
denied_by handle false slot parts true false fits answer is =
    subst (λ (x : Answer). IsTrue (refuses (Transfer handle false slot parts) x)) (some_same is) refl
denied_by handle false slot parts true true true answer is = absurd (cc is)
denied_by handle false slot parts true true false answer is =
    subst (λ (x : Answer). IsTrue (refuses (Transfer handle false slot parts) x)) (some_same is) refl

module _ (s : CoreState) (who : Doer) (place : Place) (h : IsQuiet s who.actor) (still : Rests s who.actor) where
  abbrev a : ℕ
  a = who.actor

  -- an operation is refused
  answered : (op : Op) (answer : Answer) → AtFirst place → IsTrue (refuses op answer) → IsAtOnce op answer → IsAlwaysSlow op → IsAnswerOf (op_denial (plain_of s) (references_of s) who (pages_got (plain_of s) who.actor) op) answer → Passes (plain_of s) who.proc op place.far → MakesPin s s a op → IsTurned s who place op (answers_with answer)
  answered op answer first refusal at_once slow right passes pin =
      record {
        done = record { kinds = tt; can = tt; rest = h.rest; told = refl };
        shape = shape_idle s s who place op (Done answer ∷ []) still.0 still.0 (refused op answer first refusal at_once slow right passes);
        next = still;
        pin = pin;
      }

  -- a turn of one event of the handle, in which the actor goes on to be in the middle of nothing
  one_event : (op : Op) (handle : ℕ) (e : CoreEvent) (whats : List What) → strand_of (Some op) ≡ of_handle handle → IsHandleEvent a handle e → Can s e → AtRest (happens s e) a → all_told (e ∷ []) ≡ events_of whats → (happens s e).job a ≡ idle → TurnOf (plain_of s) (references_of s) who place op unbegun whats unbegun → FitsNext (happens s e) who (Some op) place whats → MakesPin s (happens s e) a op → IsTurned s who place op (record { events = e ∷ []; whats = whats })
  one_event op handle e whats own kind can rest told behind shape next pin =
      record {
        done = record { kinds = (handling handle own kind, tt); can = (can, tt); rest = rest; told = told };
        shape = shape_idle s (happens s e) who place op whats still.0 behind shape;
        next = next;
        pin = pin;
      }

  -- unpin

  module _ (handle : ℕ) (unhad : place.had ≡ false) (holding : is_held_by (s.handle handle) a ≡ true) (left : HasLeft s a handle place.far) where
    undenied : holder_denial (is_held_by (s.handle handle) a) ≡ None
    undenied = ap holder_denial holding

    can_give : (rest : List ℕ) → but_last (s.pinned handle) ≡ rest → Can s (unpin_page a handle (last_of (s.pinned handle)) rest)
    can_give rest is =
        (holds (s.handle handle) a holding, ends (s.pinned handle) (left holding).0 ∙ ap (λ (xs : List ℕ). xs ++ last_of (s.pinned handle) ∷ []) is)

    -- by the pages that are left then
    unpins : (rest : List ℕ) → but_last (s.pinned handle) ≡ rest → IsTurned s who place (Unpin handle) (record { events = unpin_page a handle (last_of (s.pinned handle)) rest ∷ []; whats = unpinned rest a handle })
    unpins [] is =
        let one = one_less (s.pinned handle) (left holding).0 in
        let all = (left holding).1 in
        let none = ap length is in
        one_event (Unpin handle) handle (unpin_page a handle (last_of (s.pinned handle)) []) (unpinned [] a handle) refl
        (unpinning (last_of (s.pinned handle)) []) (can_give [] is) (record { prepared = h.rest.prepared; owed = h.rest.owed }) refl still.0
        (unpinned_last handle unhad undenied (omega (arith, one, all, none))) still
        (inr (inl (put_same handle gone s.handle, put_same handle [] s.pinned)))
    unpins (f ∷ rest) is =
        let one = one_less (s.pinned handle) (left holding).0 in
        let all = (left holding).1 in
        let some = ap length is in
        let t : CoreState = happens s (unpin_page a handle (last_of (s.pinned handle)) (f ∷ rest)) in
        let same : t.handle handle ≡ s.handle handle = put_same handle (s.handle handle) s.handle in
        let many = ap length (put_same handle (f ∷ rest) s.pinned) in
        let objects = ap (λ (x : Handle). length (objects_of x)) same in
        one_event (Unpin handle) handle (unpin_page a handle (last_of (s.pinned handle)) (f ∷ rest)) (unpinned (f ∷ rest) a handle) refl
        (unpinning (last_of (s.pinned handle)) (f ∷ rest)) (can_give (f ∷ rest) is) (record { prepared = h.rest.prepared; owed = h.rest.owed }) refl still.0
        (unpinned_page handle undenied (omega (arith, one, all, some))) (
          still,
          unhad,
          (λ begun. ap (λ (x : Handle). is_held_by x a) same ∙ holding),
          λ held_on. (omega (arith, many), omega (arith, many, objects, one, all, some)),
        )
        (inr (inr (same, omega (arith, many), omega (arith, many, one, some))))

  unpin_by : (handle : ℕ) (holding : Bool) → is_held_by (s.handle handle) a ≡ holding → FitsOp s who (Unpin handle) place → IsTurned s who place (Unpin handle) (unpin_turn_by holding a handle (s.pinned handle))
  unpin_by handle true is fits = unpins handle fits.1 is fits.3 (but_last (s.pinned handle)) refl
  unpin_by handle false is fits =
      answered (Unpin handle) answers.NotHeld (at_first place.far refl, fits.1) refl tt tt (rw is refl) tt (inl (refl, refl, is))
    where
      at_first : (far : ℕ) → place.far ≡ far → far ≡ 0
      at_first zero begun = refl
      at_first (suc far) begun = absurd (let held_then = fits.2 (omega (arith, begun)) in cc (sym is ∙ held_then))

  -- give

  give_by : (handle to : ℕ) (holding : Bool) → is_held_by (s.handle handle) a ≡ holding → AtFirst place → IsTurned s who place (Give handle to) (give_turn_by holding a handle to)
  give_by handle to true is first =
      one_event (Give handle to) handle (give_handle a handle to) (Event (events.Give a handle to) ∷ Done answers.Plain ∷ []) refl (giving to)
      (holds (s.handle handle) a is) (record { prepared = h.rest.prepared; owed = h.rest.owed }) refl still.0
      (gave handle to first (ap holder_denial is)) still
      (refl, inr (holds (s.handle handle) a is, put_same handle (given_to (s.handle handle) to) s.handle))
  give_by handle to false is first =
      answered (Give handle to) answers.NotHeld first refl tt tt (rw is refl) tt (refl, inl refl)

  -- take

  take_by : (handle : ℕ) (given_now : Bool) → is_given_to (s.handle handle) a ≡ given_now → taking_waits given_now handle ≡ None → AtFirst place → IsTurned s who place (Take handle) (take_turn a handle)
  take_by handle true is free first =
      let to_it = is_given (s.handle handle) a is in
      one_event (Take handle) handle (take_handle a handle) (Event (events.Take a handle) ∷ Done answers.Plain ∷ []) refl taking_over
      to_it (record { prepared = h.rest.prepared; owed = h.rest.owed }) refl still.0
      (took_over handle first) still
      (refl, to_it, put_same handle (held_by (s.handle handle) a) s.handle)
  take_by handle false is free first = absurd (cc free)

  -- transfer

  module _ (handle slot : ℕ) (parts : List Part) (few : who.slots ≤ most_slots) where
    -- does the pin have all the words, and the store all the slots?
    abbrev has_all : Bool
    has_all =
        has_words (length (objects_of (s.handle handle))) parts && has_slots who.slots slot parts

    abbrev denied : Bool → Option Answer
    denied outward = transfer_denial (s.handle handle) a outward who.slots slot parts

    -- the word of this turn
    abbrev word_here : ℕ
    word_here = word_at parts place.far

    abbrev slot_here : ℕ
    slot_here = slot + place.far

    abbrev frame : ℕ
    frame = frame_at (s.pinned handle) word_here

    module _ (outward : Bool) (fits : FitsOp s who (Transfer handle outward slot parts) place) (undenied : denied outward ≡ None) where
      allowed : (is_held_by (s.handle handle) a ≡ true) × (outward ≡ false → may_write (s.handle handle) ≡ true) × (has_all ≡ true)
      allowed = undenied_by (is_held_by (s.handle handle) a) outward (may_write (s.handle handle)) has_all undenied

      can_move : CanMove s a handle word_here slot_here frame
      can_move =
          let range = in_range (length (objects_of (s.handle handle))) who.slots slot parts place.far allowed.2 fits.2 in
          let words_there = range.0 in
          let slots_there = range.1 in
          let all = (fits.4 allowed.0).1 in
          let page_there : word_here / words < length (s.pinned handle) = omega (arith, words_there, all) in
          (holds (s.handle handle) a allowed.0, slice_get-get_or (s.pinned handle) (word_here / words) 0 page_there, omega (arith, slots_there, few))

      -- where words are left the transfer goes on; a word that moves changes nothing of that
      goes_on : place.far + 1 < words_of parts → FitsOp s who (Transfer handle outward slot parts) (record place { far = place.far + 1; had = true })
      goes_on more = (still, ((λ none. absurd (omega (arith, none))), λ some. refl), more, (λ begun. undenied), fits.4)

    transfers : (outward last : Bool) → (place.far + 1 == words_of parts) ≡ last → FitsOp s who (Transfer handle outward slot parts) place → denied outward ≡ None → IsTurned s who place (Transfer handle outward slot parts) (transfer_turn_by None s a handle outward last word_here slot_here)
    transfers true true test fits undenied =
        let value : ℕ = moves_value s a true word_here slot_here frame in
        one_event (Transfer handle true slot parts) handle (move_out a handle word_here slot_here frame value) (Event (events.MoveOut a handle word_here slot_here value) ∷ Done answers.Words ∷ []) refl
        (moving_out word_here slot_here frame value) (can_move true fits undenied, refl) (record { prepared = h.rest.prepared; owed = h.rest.owed }) refl still.0
        (moved_last handle true slot parts value (grind (arith, nat_tests)) undenied) still (refl, refl)
    transfers true false test fits undenied =
        let value : ℕ = moves_value s a true word_here slot_here frame in
        let within = fits.2 in
        let more : place.far + 1 < words_of parts = grind (arith, nat_tests, within) in
        one_event (Transfer handle true slot parts) handle (move_out a handle word_here slot_here frame value) (Event (events.MoveOut a handle word_here slot_here value) ∷ []) refl
        (moving_out word_here slot_here frame value) (can_move true fits undenied, refl) (record { prepared = h.rest.prepared; owed = h.rest.owed }) refl still.0
        (moved_word handle true slot parts value more undenied) (goes_on true fits undenied more) (refl, refl)
    transfers false true test fits undenied =
        let value : ℕ = moves_value s a false word_here slot_here frame in
        let may = (allowed false fits undenied).1 refl in
        one_event (Transfer handle false slot parts) handle (move_in a handle word_here slot_here frame value) (Event (events.MoveIn a handle word_here slot_here value) ∷ Done answers.Words ∷ []) refl
        (moving_in word_here slot_here frame value) (can_move false fits undenied, may, refl) (record { prepared = h.rest.prepared; owed = h.rest.owed }) refl still.0
        (moved_last handle false slot parts value (grind (arith, nat_tests)) undenied) still (refl, refl)
    transfers false false test fits undenied =
        let value : ℕ = moves_value s a false word_here slot_here frame in
        let may = (allowed false fits undenied).1 refl in
        let within = fits.2 in
        let more : place.far + 1 < words_of parts = grind (arith, nat_tests, within) in
        one_event (Transfer handle false slot parts) handle (move_in a handle word_here slot_here frame value) (Event (events.MoveIn a handle word_here slot_here value) ∷ []) refl
        (moving_in word_here slot_here frame value) (can_move false fits undenied, may, refl) (record { prepared = h.rest.prepared; owed = h.rest.owed }) refl still.0
        (moved_word handle false slot parts value more undenied) (goes_on false fits undenied more) (refl, refl)

    -- a transfer that has begun isn't denied
    denied_first : (outward : Bool) (answer : Answer) (far : ℕ) → place.far ≡ far → denied outward ≡ Some answer → FitsOp s who (Transfer handle outward slot parts) place → far ≡ 0
    denied_first outward answer zero begun is fits = refl
    denied_first outward answer (suc far) begun is fits = absurd (let none = fits.3 (omega (arith, begun)) in cc)

    transfer_by : (outward : Bool) (answer : Option Answer) → denied outward ≡ answer → FitsOp s who (Transfer handle outward slot parts) place → IsTurned s who place (Transfer handle outward slot parts) (transfer_turn_by answer s a handle outward (place.far + 1 == words_of parts) word_here slot_here)
    transfer_by outward None is fits = transfers outward (place.far + 1 == words_of parts) refl fits is
    transfer_by outward (Some answer) is fits =
        let first = denied_first outward answer place.far refl is fits in
        answered (Transfer handle outward slot parts) answer (first, fits.1.0 first)
        (denied_by handle outward slot parts (is_held_by (s.handle handle) a) (may_write (s.handle handle)) has_all answer is) tt tt (rw is refl) tt (refl, refl)

pub unpin_turned : (s : CoreState) (who : Doer) (place : Place) → IsQuiet s who.actor → (handle : ℕ) → FitsOp s who (Unpin handle) place → IsTurned s who place (Unpin handle) (unpin_turn s who.actor handle)
unpin_turned s who place h handle fits = unpin_by s who place h fits.0 handle (is_held_by (s.handle handle) who.actor) refl fits

pub give_turned : (s : CoreState) (who : Doer) (place : Place) → IsQuiet s who.actor → (handle to : ℕ) → FitsOp s who (Give handle to) place → IsTurned s who place (Give handle to) (give_turn s who.actor handle to)
give_turned s who place h handle to fits = give_by s who place h fits.0 handle to (is_held_by (s.handle handle) who.actor) refl fits.1

-- a take that doesn't wait
pub take_turned : (s : CoreState) (who : Doer) (place : Place) → IsQuiet s who.actor → (handle : ℕ) → FitsOp s who (Take handle) place → handle_waits s.handle who.actor (Some (Take handle)) ≡ None → IsTurned s who place (Take handle) (take_turn who.actor handle)
take_turned s who place h handle fits free =
    take_by s who place h fits.0 handle (is_given_to (s.handle handle) who.actor) refl free fits.1

pub transfer_turned : (s : CoreState) (who : Doer) (place : Place) → IsQuiet s who.actor → (handle : ℕ) (outward : Bool) (slot : ℕ) (parts : List Part) → who.slots ≤ most_slots → FitsOp s who (Transfer handle outward slot parts) place → IsTurned s who place (Transfer handle outward slot parts) (transfer_turn s who.actor who.slots handle outward slot parts place.far)
transfer_turned s who place h handle outward slot parts few fits =
    transfer_by s who place h fits.0 handle slot parts few outward (transfer_denial (s.handle handle) who.actor outward who.slots slot parts) refl fits
