-- What comes of a pin in a turn.
use Rattle.std.proofs.Common.{◌≡◌, ℕ, ◌+◌, ◌<◌, inl, inr, ◌==◌, Bool, true, false, if◌then◌else◌, List, [], ◌∷◌, ◌++◌, length, Option, Some, None, refl, ap, sym, subst, ◌∙◌, eqb-true, arith}
use Rattle.std.proofs.Math.Path.{subst₂}
use Rattle.std.proofs.lemmas.Bool.Decides.{nat_tests}
use Rattle.std.proofs.lemmas.List.{length-append}
use Rattle.gup_base.specs.Parts.{Part}
use Rattle.gup_base.specs.declared.entry.Want.{Want}
use Rattle.gup_plain.specs.Denial.{is_held_by}
use Rattle.gup_plain.specs.Event.{IsHeldBy, IsGivenTo, given_to, held_by}
use Rattle.gup_plain.specs.Put.{put}
use Rattle.gup_plain.specs.State.{Birth, Handle, held, given, gone, born, failed}
use Rattle.gup_plain.specs.declared.note.What.{What}
use Rattle.gup_plain.specs.declared.note.Waiting.{Waiting}
use Rattle.gup_script.specs.Script.{ScriptValue}
use Rattle.gup_script.specs.declared.op.Op.{Op}
use Rattle.gup_script.specs.declared.op.Op.TheVariants.{Pin, Unpin, Give, Take, Get, Put, Transfer, Fork, Move, Mirror}
use Rattle.gup_spec_events.specs.State.{CoreState, plain_of}
use Rattle.gup_spec_events.specs.Event.{unpin_page, run}
use Rattle.gup_spec_events.specs.Invariant.{AllCan}
use Rattle.gup_spec_journal.specs.Place.{Place, Doer, birth_for, place_behind, present_op}
use Rattle.gup_spec_turns.specs.JobPlace.{JobPlace}
use Rattle.gup_law_turns.specs.Standing.{StandsHandle, given_back}
use Rattle.gup_spec_turns.specs.Run.{core_turn_by}
use Rattle.gup_spec_turns.specs.CoreTurn.{CoreTurn}
use Rattle.gup_spec_turns.specs.Turn.{turn_at, failed_turn, op_turn}
use Rattle.gup_spec_turns.specs.PinTurns.{unpin_turn, unpinned, last_of, but_last}
use Rattle.gup_spec_turns.proofs.TurnParts.{unpin_turn_by}
use Rattle.gup_spec_turns.specs.Emptying.{emptying}
use Rattle.gup_spec_turns.proofs.Unseen.{emptying_reads}
use Rattle.gup_law_turns.proofs.EmptiedSlots.{about_same}
use Rattle.gup_law_turns.proofs.TurnSubjects.{about_unpin}
use Rattle.gup_law_turns.proofs.CalmStates.{of_pages, of_pin, of_handle}
use Rattle.gup_law_turns.proofs.KeptParts.{same_or_apart, KeepsPin, leaves_pins}
use Rattle.gup_law_turns.proofs.ActorPlaces.{IsBehindTurn, stays_there, goes_by, goes_on, is_over, turn_behind}
use Rattle.gup_law_turns.proofs.Puts.{put_same}
use Rattle.gup_law_turns.proofs.ScriptPlaces.{fresh_place}
use Rattle.gup_law_turns.proofs.TurnShapes.{references_of, TurnAt, goes, unborn_refused, unborn_fork, child_of, strand_of}
use Rattle.gup_law_turns.proofs.StandingStates.{IsTaken}
use Rattle.gup_law_turns.proofs.TurnAsOwn.{idle_own, lost_own}

-- What may come of a pin in a turn of an actor, which has given back so many of its pages before it, and so many after
-- it.
pub data Change (a back behind : ℕ) (pinned after : List ℕ) (handle new : Handle) : Type 0 where
  is_kept : new ≡ handle → after ≡ pinned → (is_held_by handle a ≡ true → behind ≡ back) → Change a back behind pinned after handle new
  is_made : IsHeldBy new a → StandsHandle (λ b. 0) after new → behind ≡ 0 → Change a back behind pinned after handle new
  is_lost : new ≡ gone → after ≡ [] → Change a back behind pinned after handle new
  is_given : (to : ℕ) → IsHeldBy handle a → new ≡ given_to handle to → after ≡ pinned → back ≡ 0 → Change a back behind pinned after handle new
  is_taken : IsGivenTo handle a → new ≡ held_by handle a → after ≡ pinned → behind ≡ 0 → Change a back behind pinned after handle new
  has_fewer : IsHeldBy handle a → new ≡ handle → 0 < length after → length after + 1 ≡ length pinned → behind ≡ back + 1 → Change a back behind pinned after handle new

-- the holder of a handle is found
held_found : (by a : ℕ) → by ≡ a → (by == a) ≡ true
held_found by a same = grind (arith, nat_tests)

pub same_pin : {h k : ℕ} → of_pin h ≡ of_pin k → h ≡ k
same_pin e = cc

pub same_handle : {h k : ℕ} → of_handle h ≡ of_handle k → h ≡ k
same_handle e = cc

module _ (backs behinds : ℕ → ℕ) (a : ℕ) (others : (b : ℕ) → (b ≡ a → ⊥) → behinds b ≡ backs b) where
  kept_stands : (pinned : List ℕ) (handle : Handle) → (is_held_by handle a ≡ true → behinds a ≡ backs a) → StandsHandle backs pinned handle → StandsHandle behinds pinned handle
  kept_stands pinned (held by objects write) own stands =
      elim (same_or_apart by a) [
        | inl same ↦ holds (ap behinds same ∙ own (held_found by a same) ∙ ap backs (sym same))
        | inr other ↦ holds (others by other)
      ]
    where
      holds : behinds by ≡ backs by → StandsHandle behinds pinned (held by objects write)
      holds is = (stands.0, stands.1, ap (λ (k : ℕ). length pinned + k) is ∙ stands.2)
  kept_stands pinned handle own stands = stands

  made_stands : (pinned : List ℕ) (handle : Handle) → IsHeldBy handle a → behinds a ≡ 0 → StandsHandle (λ b. 0) pinned handle → StandsHandle behinds pinned handle
  made_stands pinned (held by objects write) holds none stands =
      (stands.0, stands.1, ap (λ (k : ℕ). length pinned + k) (ap behinds holds ∙ none) ∙ stands.2)
  made_stands pinned handle holds none stands = absurd holds

  given_stands : (pinned : List ℕ) (handle : Handle) (to : ℕ) → IsHeldBy handle a → backs a ≡ 0 → StandsHandle backs pinned handle → StandsHandle behinds pinned (given_to handle to)
  given_stands pinned (held by objects write) to holds none stands =
      let back : backs by ≡ 0 = ap backs holds ∙ none in
      let all = stands.2 in
      (stands.0, stands.1, omega (arith, back, all))
  given_stands pinned handle to holds none stands = absurd holds

  taken_stands : (pinned : List ℕ) (handle : Handle) → IsGivenTo handle a → behinds a ≡ 0 → StandsHandle backs pinned handle → StandsHandle behinds pinned (held_by handle a)
  taken_stands pinned (given to objects write) is none stands =
      let all = stands.2 in
      (stands.0, stands.1, omega (arith, none, all))
  taken_stands pinned handle is none stands = absurd is

  fewer_stand : (pinned after : List ℕ) (handle : Handle) → IsHeldBy handle a → 0 < length after → length after + 1 ≡ length pinned → behinds a ≡ backs a + 1 → StandsHandle backs pinned handle → StandsHandle behinds after handle
  fewer_stand pinned after (held by objects write) holds some one more stands =
      let back : backs by ≡ backs a = ap backs holds in
      let behind : behinds by ≡ behinds a = ap behinds holds in
      let all = stands.2 in
      (some, stands.1, omega (arith, one, more, back, behind, all))
  fewer_stand pinned after handle holds some one more stands = absurd holds

  -- whatever comes of it, the pin stands as before
  pub changed_stands : {pinned after : List ℕ} {handle new : Handle} → Change a (backs a) (behinds a) pinned after handle new → StandsHandle backs pinned handle → StandsHandle behinds after new
  changed_stands {pinned = pinned} {handle = handle} (is_kept same pages own) stands =
      subst₂ (StandsHandle behinds) (sym pages) (sym same) (kept_stands pinned handle own stands)
  changed_stands {after = after} {new = new} (is_made holds whole none) stands = made_stands after new holds none whole
  changed_stands (is_lost lost none) stands = subst₂ (StandsHandle behinds) (sym none) (sym lost) refl
  changed_stands {pinned = pinned} {handle = handle} (is_given to holds now pages none) stands =
      subst₂ (StandsHandle behinds) (sym pages) (sym now) (given_stands pinned handle to holds none stands)
  changed_stands {pinned = pinned} {handle = handle} (is_taken is now pages none) stands =
      subst₂ (StandsHandle behinds) (sym pages) (sym now) (taken_stands pinned handle is none stands)
  changed_stands {pinned = pinned} {after = after} {handle = handle} (has_fewer holds same some one more) stands =
      subst (StandsHandle behinds after) (sym same) (fewer_stand pinned after handle holds some one more stands)

-- what is given back

-- the first turn of an operation finds nothing given back
pub first_back : (op : Option Op) (h : ℕ) → given_back op h 0 ≡ 0
first_back (Some (Unpin handle)) h = go (handle == h)
  where
    none : ℕ
    none = 0

    go : (b : Bool) → (if b then none else none) ≡ none
    go true = refl
    go false = refl
first_back op h = refl

-- an unpin gives back a page a turn, and of no other pin
own_back : (h far : ℕ) → given_back (Some (Unpin h)) h far ≡ far
own_back h far = grind (arith, nat_tests)

other_back : (handle h far : ℕ) → (h ≡ handle → ⊥) → given_back (Some (Unpin handle)) h far ≡ 0
other_back handle h far other = go (handle == h) refl
  where
    go : (b : Bool) → (handle == h) ≡ b → (if b then far else 0) ≡ 0
    go true is = absurd (other (sym (eqb-true handle h is)))
    go false is = refl

module _ (script : ScriptValue) (s : CoreState) (who : Doer) (place : Place) where
  abbrev back_behind : (h : ℕ) → List What → ℕ
  back_behind h whats = given_back (present_op script who.actor (place_behind place whats)) h (place_behind place whats).far

  abbrev ChangeBy : (h : ℕ) → Option Op → CoreTurn → Type 0
  ChangeBy h op turn =
      Change who.actor (given_back op h place.far) (back_behind h turn.whats) (s.pinned h) ((run s turn.events).pinned h)
      (s.handle h) ((run s turn.events).handle h)

  -- an operation that isn't an unpin of it has nothing given back after it, too
  none_behind : (t : CoreState) (h : ℕ) (op : Option Op) (whats : List What) → present_op script who.actor place ≡ op → ((far : ℕ) → given_back op h far ≡ 0) → IsBehindTurn t who op place whats → back_behind h whats ≡ 0
  none_behind t h op whats is none (stays_there same fits) =
      ap (λ (q : Place). given_back (present_op script who.actor q) h q.far) same ∙ ap (λ (o : Option Op). given_back o h place.far) is ∙ none place.far
  none_behind t h op whats is none (goes_by (goes_on had same fits)) =
      ap (λ (q : Place). given_back (present_op script who.actor q) h q.far) same ∙ ap (λ (o : Option Op). given_back o h (place.far + 1)) is ∙ none (place.far + 1)
  none_behind t h op whats is none (goes_by (is_over same rests)) =
      ap (λ (q : Place). given_back (present_op script who.actor q) h q.far) same ∙ first_back (present_op script who.actor (fresh_place (place.answered + 1))) h

  -- a pin that the operation isn't about
  other_change : (h : ℕ) (op : Option Op) (waiting : Option Waiting) (turn : CoreTurn) → present_op script who.actor place ≡ op → ((far : ℕ) → given_back op h far ≡ 0) → (strand_of op ≡ of_pin h → ⊥) → (strand_of op ≡ of_handle h → ⊥) → IsTaken s who place op waiting turn → ChangeBy h op turn
  other_change h op waiting turn is none no_pin no_handle turns =
      let kept = (leaves_pins s who.actor who.proc (child_of who.proc op) (strand_of op) turn.events turns.done.kinds turns.done.can).others h no_pin no_handle in
      let behind = none_behind (run s turn.events) h op turn.whats is none (turn_behind (run s turn.events) turns.shape) in
      is_kept kept.handle kept.pinned (λ holds. behind ∙ sym (none place.far))

  -- the pin that the operation makes, gives or takes, or moves words of

  pin_change : (handle page n : ℕ) (want : Want) (fast : Bool) (turn : CoreTurn) → birth_for s.birth who ≡ born → present_op script who.actor place ≡ Some (Pin handle page n want fast) → IsTaken s who place (Some (Pin handle page n want fast)) None turn → ChangeBy handle (Some (Pin handle page n want fast)) turn
  pin_change handle page n want fast turn birth is turns =
      let behind = none_behind (run s turn.events) handle (Some (Pin handle page n want fast)) turn.whats is (λ far. refl) (turn_behind (run s turn.events) turns.shape) in
      elim (turns.pin (Pin handle page n want fast) refl refl birth) [
        | inl same ↦ is_kept same.0 same.1 (λ holds. behind)
        | inr makes ↦ is_made makes.0 makes.1 behind
      ]

  give_change : (handle to : ℕ) (turn : CoreTurn) → birth_for s.birth who ≡ born → present_op script who.actor place ≡ Some (Give handle to) → IsTaken s who place (Some (Give handle to)) None turn → ChangeBy handle (Some (Give handle to)) turn
  give_change handle to turn birth is turns =
      let behind = none_behind (run s turn.events) handle (Some (Give handle to)) turn.whats is (λ far. refl) (turn_behind (run s turn.events) turns.shape) in
      let pin = turns.pin (Give handle to) refl refl birth in
      elim pin.1 [
        | inl same ↦ is_kept same pin.0 (λ holds. behind)
        | inr gives ↦ is_given to gives.0 gives.1 pin.0 refl
      ]

  take_change : (handle : ℕ) (turn : CoreTurn) → birth_for s.birth who ≡ born → present_op script who.actor place ≡ Some (Take handle) → IsTaken s who place (Some (Take handle)) None turn → ChangeBy handle (Some (Take handle)) turn
  take_change handle turn birth is turns =
      let behind = none_behind (run s turn.events) handle (Some (Take handle)) turn.whats is (λ far. refl) (turn_behind (run s turn.events) turns.shape) in
      let pin = turns.pin (Take handle) refl refl birth in
      is_taken pin.1 pin.2 pin.0 behind

  transfer_change : (handle : ℕ) (outward : Bool) (slot : ℕ) (parts : List Part) (turn : CoreTurn) → birth_for s.birth who ≡ born → present_op script who.actor place ≡ Some (Transfer handle outward slot parts) → IsTaken s who place (Some (Transfer handle outward slot parts)) None turn → ChangeBy handle (Some (Transfer handle outward slot parts)) turn
  transfer_change handle outward slot parts turn birth is turns =
      let behind = none_behind (run s turn.events) handle (Some (Transfer handle outward slot parts)) turn.whats is (λ far. refl) (turn_behind (run s turn.events) turns.shape) in
      let pin = turns.pin (Transfer handle outward slot parts) refl refl birth in
      is_kept (ap (λ (f : ℕ → Handle). f handle) pin.0) (ap (λ (f : ℕ → List ℕ). f handle) pin.1) (λ holds. behind)

  -- the pin that it gives back

  unpin_left : (handle f : ℕ) (left : List ℕ) → present_op script who.actor place ≡ Some (Unpin handle) → IsHeldBy (s.handle handle) who.actor → s.pinned handle ≡ left ++ f ∷ [] → ChangeBy handle (Some (Unpin handle)) (record { events = unpin_page who.actor handle f left ∷ []; whats = unpinned left who.actor handle })
  unpin_left handle f [] is holds pages = is_lost (put_same handle gone s.handle) (put_same handle [] s.pinned)
  unpin_left handle f (g ∷ gs) is holds pages =
      let now = put_same handle (g ∷ gs) s.pinned in
      let many : length (s.pinned handle) ≡ length (g ∷ gs) + 1 = ap (λ (xs : List ℕ). length xs) pages ∙ length-append (g ∷ gs) (f ∷ []) in
      let left : length (put handle (g ∷ gs) s.pinned handle) ≡ length (g ∷ gs) = ap (λ (xs : List ℕ). length xs) now in
      let before : given_back (Some (Unpin handle)) handle place.far ≡ place.far = own_back handle place.far in
      let behind : given_back (present_op script who.actor place) handle (place.far + 1) ≡ place.far + 1 = ap (λ (o : Option Op). given_back o handle (place.far + 1)) is ∙ own_back handle (place.far + 1) in
      has_fewer holds (put_same handle (s.handle handle) s.handle) (omega (arith, left)) (omega (arith, left, many)) (omega (arith, before, behind))

  unpin_by : (handle : ℕ) (holds : Bool) → is_held_by (s.handle handle) who.actor ≡ holds → present_op script who.actor place ≡ Some (Unpin handle) → AllCan s (unpin_turn_by holds who.actor handle (s.pinned handle)).events → ChangeBy handle (Some (Unpin handle)) (unpin_turn_by holds who.actor handle (s.pinned handle))
  unpin_by handle false lacks is can = is_kept refl refl (λ holds. absurd (cc))
  unpin_by handle true holds is can = unpin_left handle (last_of (s.pinned handle)) (but_last (s.pinned handle)) is can.0.0 can.0.1

  unpin_change : (handle : ℕ) → birth_for s.birth who ≡ born → present_op script who.actor place ≡ Some (Unpin handle) → IsTaken s who place (Some (Unpin handle)) None (core_turn_by s who place.far (Some (Unpin handle)) None) → ChangeBy handle (Some (Unpin handle)) (core_turn_by s who place.far (Some (Unpin handle)) None)
  unpin_change handle birth is turns =
      let same : core_turn_by s who place.far (Some (Unpin handle)) None ≡ unpin_turn s who.actor handle =
      idle_own s who place.far (Unpin handle) tt
      ∙ ap (λ (b : Birth). emptying s who.actor (turn_at b (failed_turn who.actor who.proc (Unpin handle)) (unpin_turn s who.actor handle))) birth
      ∙ about_same s who.actor handle (unpin_turn s who.actor handle) (about_unpin who.actor handle (is_held_by (s.handle handle) who.actor) (s.pinned handle)) in
      let can = subst (λ (turn : CoreTurn). AllCan s turn.events) same turns.done.can in
      subst (ChangeBy handle (Some (Unpin handle))) (sym same) (unpin_by handle (is_held_by (s.handle handle) who.actor) refl is can)

  -- the turn of an operation that waits for nothing
  abbrev going : Op → CoreTurn
  going op = core_turn_by s who place.far (Some op) None

  abbrev IsGoing : Op → Type 0
  IsGoing op = IsTaken s who place (Some op) None (going op)

  -- one that is about pages alone
  pages_change : (h : ℕ) (op : Op) → ((far : ℕ) → given_back (Some op) h far ≡ 0) → strand_of (Some op) ≡ of_pages → present_op script who.actor place ≡ Some op → IsGoing op → ChangeBy h (Some op) (going op)
  pages_change h op none pages is turns =
      other_change h (Some op) None (going op) is none (λ e. cc (sym pages ∙ e)) (λ e. cc (sym pages ∙ e)) turns

  -- one that is about a pin, for that pin and for another
  about_change : (h handle : ℕ) (op : Op) → strand_of (Some op) ≡ of_handle handle → ((h ≡ handle → ⊥) → (far : ℕ) → given_back (Some op) h far ≡ 0) → ChangeBy handle (Some op) (going op) → present_op script who.actor place ≡ Some op → IsGoing op → ChangeBy h (Some op) (going op)
  about_change h handle op about none own is turns =
      elim (same_or_apart h handle) [
        | inl same ↦ subst (λ (k : ℕ). ChangeBy k (Some op) (going op)) (sym same) own
        | inr other ↦ other_change h (Some op) None (going op) is (none other) (λ e. cc (sym about ∙ e)) (λ e. other (sym (same_handle (sym about ∙ e)))) turns
      ]

  pin_or_other : (h handle page n : ℕ) (want : Want) (fast : Bool) → birth_for s.birth who ≡ born → present_op script who.actor place ≡ Some (Pin handle page n want fast) → IsGoing (Pin handle page n want fast) → ChangeBy h (Some (Pin handle page n want fast)) (going (Pin handle page n want fast))
  pin_or_other h handle page n want fast birth is turns =
      let op : Op = Pin handle page n want fast in
      elim (same_or_apart h handle) [
        | inl same ↦ subst (λ (k : ℕ). ChangeBy k (Some op) (going op)) (sym same) (pin_change handle page n want fast (going op) birth is turns)
        | inr other ↦ other_change h (Some op) None (going op) is (λ far. refl) (λ e. other (sym (same_pin e))) (λ e. cc e) turns
      ]

  -- so what comes of it depends on the operation
  op_changes : (h : ℕ) (op : Op) → birth_for s.birth who ≡ born → present_op script who.actor place ≡ Some op → IsGoing op → ChangeBy h (Some op) (going op)
  op_changes h (Pin handle page n want fast) birth is turns = pin_or_other h handle page n want fast birth is turns
  op_changes h (Unpin handle) birth is turns =
      about_change h handle (Unpin handle) refl (λ other far. other_back handle h far other) (unpin_change handle birth is turns) is turns
  op_changes h (Give handle to) birth is turns =
      about_change h handle (Give handle to) refl (λ other far. refl) (give_change handle to (going (Give handle to)) birth is turns) is turns
  op_changes h (Take handle) birth is turns =
      about_change h handle (Take handle) refl (λ other far. refl) (take_change handle (going (Take handle)) birth is turns) is turns
  op_changes h (Transfer handle outward slot parts) birth is turns =
      about_change h handle (Transfer handle outward slot parts) refl (λ other far. refl)
      (transfer_change handle outward slot parts (going (Transfer handle outward slot parts)) birth is turns) is turns
  op_changes h (Get handle page) birth is turns = other_change h (Some (Get handle page)) None (going (Get handle page)) is (λ far. refl) (λ e. cc e) (λ e. cc e) turns
  op_changes h (Put handle) birth is turns = other_change h (Some (Put handle)) None (going (Put handle)) is (λ far. refl) (λ e. cc e) (λ e. cc e) turns
  op_changes h (Mirror mirror proc page) birth is turns = other_change h (Some (Mirror mirror proc page)) None (going (Mirror mirror proc page)) is (λ far. refl) (λ e. cc e) (λ e. cc e) turns
  op_changes h (Move proc page zone) birth is turns = other_change h (Some (Move proc page zone)) None (going (Move proc page zone)) is (λ far. refl) (λ e. cc e) (λ e. cc e) turns
  op_changes h op birth is turns = pages_change h op (λ far. refl) refl is turns

  -- the turn of a failed process changes no pin
  failed_keeps : (h : ℕ) (op : Op) → KeepsPin h s (run s (failed_turn who.actor who.proc op).events)
  failed_keeps h (Fork child) = record { handle = refl; pinned = refl }
  failed_keeps h op = record { handle = refl; pinned = refl }

  emptying_keeps : (h : ℕ) (turn : CoreTurn) → KeepsPin h s (run s turn.events) → KeepsPin h s (run s (emptying s who.actor turn).events)
  emptying_keeps h turn kept =
      record {
        handle = emptying_reads (λ t. t.handle h) (λ f t. refl) s who.actor turn ∙ kept.handle;
        pinned = emptying_reads (λ t. t.pinned h) (λ f t. refl) s who.actor turn ∙ kept.pinned;
      }

  -- and it answers its operation, of which nothing was given back
  failed_changes : (h : ℕ) (op : Op) → birth_for s.birth who ≡ failed → place.far ≡ 0 → place_behind place (going op).whats ≡ fresh_place (place.answered + 1) → ChangeBy h (Some op) (going op)
  failed_changes h op birth first over =
      let same : going op ≡ emptying s who.actor (failed_turn who.actor who.proc op) =
      lost_own s who place.far op birth
      ∙ ap (λ (b : Birth). emptying s who.actor (turn_at b (failed_turn who.actor who.proc op) (op_turn s who.actor who.proc who.slots place.far op))) birth in
      let kept = subst (λ (turn : CoreTurn). KeepsPin h s (run s turn.events)) (sym same) (emptying_keeps h (failed_turn who.actor who.proc op) (failed_keeps h op)) in
      let before : given_back (Some op) h place.far ≡ 0 = ap (given_back (Some op) h) first ∙ first_back (Some op) h in
      let behind : back_behind h (going op).whats ≡ 0 = ap (λ (q : Place). given_back (present_op script who.actor q) h q.far) over ∙ first_back (present_op script who.actor (fresh_place (place.answered + 1))) h in
      is_kept kept.handle kept.pinned (λ holds. behind ∙ sym before)

  shape_changes : {from to : JobPlace} {whats : List What} (h : ℕ) (op : Op) → (going op).whats ≡ whats → present_op script who.actor place ≡ Some op → IsGoing op → TurnAt (plain_of s) (references_of s) who place (Some op) None from whats to → ChangeBy h (Some op) (going op)
  shape_changes h op same is turns (goes o whats from to birth own turn) = op_changes h op birth is turns
  shape_changes h op same is turns (unborn_refused o birth first refusal) = failed_changes h op birth first.0 (ap (place_behind place) same)
  shape_changes h op same is turns (unborn_fork child birth own first) = failed_changes h op birth first.0 (ap (place_behind place) same)

  -- one that is idle or waits changes nothing
  pub turn_changes : (h : ℕ) (op : Option Op) (waiting : Option Waiting) → present_op script who.actor place ≡ op → IsTaken s who place op waiting (core_turn_by s who place.far op waiting) → ChangeBy h op (core_turn_by s who place.far op waiting)
  turn_changes h None waiting is turns = is_kept refl refl (λ holds. ap (λ (o : Option Op). given_back o h place.far) is)
  turn_changes h (Some op) (Some waiting) is turns = is_kept refl refl (λ holds. ap (λ (o : Option Op). given_back o h place.far) is)
  turn_changes h (Some op) None is turns = shape_changes h op refl is turns turns.shape
