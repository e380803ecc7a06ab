-- What a turn needs stays true where page tables grow before it.
use Rattle.std.proofs.Common.{◌≡◌, ℕ, ◌+◌, ◌<◌, ◌^◌, ◌==◌, ◌&&◌, not, is_none, Bool, true, false, List, length, slice_get, Some, IsSome, refl, sym, ap, ◌∙◌, subst}
use Rattle.std.proofs.lemmas.Option.{slice_get_within}
use Rattle.gup_base.specs.declared.entry.Want.{Want}
use Rattle.gup_script.specs.declared.op.Op.{Op}
use Rattle.gup_script.specs.declared.op.Op.TheVariants.{Load, Store, Pin}
use Rattle.gup_frames.specs.Frames.{FramesValue, frames_of}
use Rattle.gup_space.specs.Space.{SpaceValue, SpaceParts, space_of}
use Rattle.gup_spec_turns.specs.CoreTurn.{allows_store}
use Rattle.gup_spec_turns.specs.JobPlace.{JobPlace as Place, unbegun, from_page, at_page, wants_frame, at_word, moving_page, in_walk}
use Rattle.gup_op_base.specs.declared.jobs.JobPlace.{JobPlace}
use Rattle.gup_op_base.specs.Jobs.{place_of}
use Rattle.gup_op_base.specs.Tidy.{IsTidy, AreNumbered, needs_table}
use Rattle.arrayvec.specs.ArrayVec.{ArrayVec}
use Rattle.gup_op_tables.specs.Spots.{is_slow}
use Rattle.gup_op_tables.specs.Alike.{IsAlike, IsGrown, EachPair}
use Rattle.gup_op_fork.specs.Forked.{IsCountedIn, IsCopyOf, IsReadyAt}
use Rattle.gup_op_move.specs.Moving.{IsReadyToMove}
use Rattle.gup_op_pins.specs.Pins.{IsReadyToPin, IsCountedWalk}
use Rattle.gup_op_waits.specs.declared.births.Birth.{Birth}
use Rattle.gup_op_waits.specs.declared.parts.Parts.{Parts}
use Rattle.gup_op_waits.specs.Parts.{EachSpace}
use Rattle.gup_op_turns.specs.Goes.{IsForkReady, IsReady}
use Rattle.gup_op_turns.proofs.Turning.{there}

-- ---- each process

-- what stays true of each process that becomes another, stays true of all
pub each_pair : (R : SpaceValue → SpaceValue → Type 0) (P : SpaceValue → Type 0) (old new : List SpaceParts) → ((was now : SpaceValue) → R was now → P was → P now) → EachPair R old new → length new ≡ length old → EachSpace P old → EachSpace P new
each_pair R P old new carries pairs many h p now is =
    let was = there old p (subst (λ (n : ℕ). p < n) many (slice_get_within new p now is)) in
    carries (space_of was.0) (space_of now) (pairs p was.0 now was.1 is) (h p was.0 was.1)

pub each_alike : (P : SpaceValue → Type 0) (old new : List SpaceParts) → ((was now : SpaceValue) → IsGrown was now → P was → P now) → EachPair IsGrown old new → length new ≡ length old → EachSpace P old → EachSpace P new
each_alike P old new carries pairs many h = each_pair IsGrown P old new carries pairs many h

pub numbered_alike : (was now : SpaceValue) → IsAlike was now → AreNumbered was → AreNumbered now
numbered_alike was now alike h = subst (λ (s : SpaceValue). AreNumbered s) (sym alike) h

pub tidy_alike : (F : FramesValue) (was now : SpaceValue) → IsAlike was now → IsTidy F was → IsTidy F now
tidy_alike F was now alike h =
    subst (λ (s : SpaceValue). IsTidy F s) (sym alike)
    (record { numbered = h.numbered; mapped = h.mapped; there = h.there; counted = h.counted; marked = h.marked })

pub each_tidy : (F : FramesValue) (old new : List SpaceParts) → EachPair IsGrown old new → length new ≡ length old → EachSpace (IsTidy F) old → EachSpace (IsTidy F) new
each_tidy F old new pairs many h = each_alike (IsTidy F) old new (λ was now grown. tidy_alike F was now grown.alike) pairs many h

pub each_numbered : (old new : List SpaceParts) → EachPair IsGrown old new → length new ≡ length old → EachSpace AreNumbered old → EachSpace AreNumbered new
each_numbered old new pairs many h = each_alike AreNumbered old new (λ was now grown. numbered_alike was now grown.alike) pairs many h

-- each tidy process has its pages numbered
pub tidy_numbered : (F : FramesValue) (spaces : List SpaceParts) → EachSpace (IsTidy F) spaces → EachSpace AreNumbered spaces
tidy_numbered F spaces h p space is = (h p space is).numbered

-- ---- one process

-- the same operations need its table lock
needs_alike : (was now : SpaceValue) (op : Op) → IsAlike was now → needs_table now op ≡ needs_table was op
needs_alike was now (Load page word) alike = ap (λ (s : SpaceValue). is_none (s.entry page)) alike
needs_alike was now (Store page word value) alike = ap (λ (s : SpaceValue). not (allows_store (s.entry page))) alike
needs_alike was now op alike = refl

-- a fork finds what it found
fork_grown : (F : FramesValue) (a : ℕ) (place : Place) (P Q C D : SpaceValue) → IsGrown P Q → IsGrown C D → IsReadyAt F a place P C → IsReadyAt F a place Q D
fork_grown F a place P Q C D parent kid h = go place h
  where
    locked : P.structure ≡ Some a → Q.structure ≡ Some a
    locked is = ap (λ (s : SpaceValue). s.structure) parent.alike ∙ is

    counted : (page : ℕ) → IsCountedIn page P C → IsCountedIn page Q D
    counted page is =
        subst (λ (s : SpaceValue). IsCountedIn page Q s) (sym kid.alike) (subst (λ (s : SpaceValue). IsCountedIn page s C) (sym parent.alike) is)

    copy : (page to : ℕ) → IsCopyOf F page to P → IsCopyOf F page to Q
    copy page to is = subst (λ (s : SpaceValue). IsCopyOf F page to s) (sym parent.alike) is

    go : (place : Place) → IsReadyAt F a place P C → IsReadyAt F a place Q D
    go unbegun is = tt
    go (from_page page) is = locked is
    go (at_page page) is = (locked is.0, counted page is.1)
    go (wants_frame page) is = (locked is.0, counted page is.1)
    go (at_word page word to) is = (locked is.0, counted page is.1, copy page to is.2, is.3, kid.full page is.4)
    go place is = absurd is

-- and so do a move and a pin
move_grown : (F : FramesValue) (page : ℕ) (place : Place) (S T : SpaceValue) → IsGrown S T → IsReadyToMove F page place S → IsReadyToMove F page place T
move_grown F page unbegun S T grown h = tt
move_grown F page (moving_page g e count) S T grown h =
    (h.0, subst (λ (s : SpaceValue). IsSome (s.right page)) (sym grown.alike) h.1, ap (λ (s : SpaceValue). s.entry page) grown.alike ∙ h.2, h.3, h.4, grown.full page h.5)
move_grown F page place S T grown h = absurd h

pin_grown : (F : FramesValue) (taken : List ℕ) (page n : ℕ) (want : Want) (begins : Bool) (place : Place) (S T : SpaceValue) → IsGrown S T → is_slow place ≡ true → IsReadyToPin F taken page n want begins place S → IsReadyToPin F taken page n want begins place T
pin_grown F taken page n want begins unbegun S T grown is h = λ slow. ap (λ (s : SpaceValue). s.table) grown.alike ∙ h slow
pin_grown F taken page n want begins (moving_page g e count) S T grown slow h = absurd (cc)
pin_grown F taken page n want begins (in_walk sequence step) S T grown slow h = absurd (cc)
pin_grown F taken page n want begins place S T grown slow h = absurd h

walk_grown : (place : Place) (S T : SpaceValue) → IsGrown S T → IsCountedWalk place S → IsCountedWalk place T
walk_grown (in_walk sequence step) S T grown h = subst (λ (s : SpaceValue). 0 < s.walks) (sym grown.alike) h
walk_grown place S T grown h = tt

-- ---- all parts

fork_ready_grown : (F : FramesValue) (old new : List SpaceParts) (births : List Birth) (a p child : ℕ) (place : JobPlace) → length new ≡ length old → EachPair IsGrown old new → IsForkReady F old births a p child place → IsForkReady F new births a p child place
fork_ready_grown F old new births a p child place many pairs h =
    record {
      apart = h.apart;
      there = subst (λ (n : ℕ). child < n) (sym many) h.there;
      declared = h.declared;
      few_forks = each_alike (λ (s : SpaceValue). s.sequence < 2 ^ 40) old new (λ was now grown few. subst (λ (s : SpaceValue). s.sequence < 2 ^ 40) (sym grown.alike) few) pairs many h.few_forks;
      stands = λ parent kid parent_is kid_is.
          let was = there old p (subst (λ (n : ℕ). p < n) many (slice_get_within new p parent parent_is)) in
          let born = there old child h.there in
          fork_grown F a (place_of place) (space_of was.0) (space_of parent) (space_of born.0) (space_of kid) (pairs p was.0 parent was.1 parent_is) (pairs child born.0 kid born.1 kid_is)
          (h.stands was.0 born.0 was.1 born.1);
    }

-- readiness survives growth of page tables
pub ready_grown : (old new : Parts) (a p : ℕ) (op : Op) (gone : ℕ) (place : JobPlace) → new ≡ record old { spaces = new.spaces } → length new.spaces.items ≡ length old.spaces.items → EachPair IsGrown old.spaces.items new.spaces.items
    → ((handle page n : ℕ) (want : Want) (fast : Bool) → op ≡ Pin handle page n want fast → is_slow (place_of place) ≡ false → new.spaces.items ≡ old.spaces.items) → IsReady old a p op gone place → IsReady new a p op gone place
ready_grown old new a p op gone place rest many pairs stay h =
    subst (λ (parts : Parts). IsReady parts a p op gone place) (sym rest)
    (record {
      there = λ has. subst (λ (n : ℕ). p < n) (sym many) (h.there has);
      tidy = each_tidy (frames_of old.frames) old.spaces.items new.spaces.items pairs many h.tidy;
      few_counts = h.few_counts;
      table = λ space found single needed.
          let was = at_old p space found in
          let grown = pairs p was.0 space was.1 found in
          ap (λ (s : SpaceValue). s.table) grown.alike ∙ h.table was.0 was.1 single (sym (needs_alike (space_of was.0) (space_of space) op grown.alike) ∙ needed);
      in_range = h.in_range;
      far = h.far;
      fork = λ child is. fork_ready_grown (frames_of old.frames) old.spaces.items new.spaces.items old.births.items a p child place many pairs (h.fork child is);
      move = λ q page zone space is found.
          let was = at_old p space found in
          move_grown (frames_of old.frames) page (place_of place) (space_of was.0) (space_of space) (pairs p was.0 space was.1 found) (h.move q page zone was.0 is was.1);
      weighed = h.weighed;
      referred = h.referred;
      yet = h.yet;
      taken = h.taken;
      pin = λ space pages handle page n want fast is found pages_are. pin_ready space pages handle page n want fast is found pages_are (is_slow (place_of place)) refl;
      few_walks = each_alike (λ (s : SpaceValue). s.walks < 2 ^ 40) old.spaces.items new.spaces.items (λ was now grown few. subst (λ (s : SpaceValue). s.walks < 2 ^ 40) (sym grown.alike) few) pairs many h.few_walks;
      walk = λ space handle page n want fast is found.
          let was = at_old p space found in
          walk_grown (place_of place) (space_of was.0) (space_of space) (pairs p was.0 space was.1 found) (h.walk was.0 handle page n want fast is was.1);
      given = h.given;
      actor_taken = h.actor_taken;
      actor_store = h.actor_store;
    })
  where
    -- what was at the place of a process
    at_old : (q : ℕ) (space : SpaceParts) → slice_get new.spaces.items q ≡ Some space → (was : SpaceParts) × (slice_get old.spaces.items q ≡ Some was)
    at_old q space found = there old.spaces.items q (subst (λ (n : ℕ). q < n) many (slice_get_within new.spaces.items q space found))

    -- a pin takes a page slowly, or nothing grows
    pin_ready : (space : SpaceParts) (pages : ArrayVec ℕ) (handle page n : ℕ) (want : Want) (fast : Bool) → op ≡ Pin handle page n want fast → slice_get new.spaces.items p ≡ Some space → slice_get old.taken.items a ≡ Some pages
        → (slow : Bool) → is_slow (place_of place) ≡ slow → IsReadyToPin (frames_of old.frames) pages.items (page + length pages.items) n want (fast && gone == 0) (place_of place) (space_of space)
    pin_ready space pages handle page n want fast is found pages_are false slow =
        h.pin space pages handle page n want fast is (ap (λ (xs : List SpaceParts). slice_get xs p) (sym (stay handle page n want fast is slow)) ∙ found) pages_are
    pin_ready space pages handle page n want fast is found pages_are true slow =
        let was = at_old p space found in
        pin_grown (frames_of old.frames) pages.items (page + length pages.items) n want (fast && gone == 0) (place_of place) (space_of was.0) (space_of space) (pairs p was.0 space was.1 found) slow
        (h.pin was.0 pages handle page n want fast is was.1 pages_are)
