-- What a changed actor, and a changed handle, in the parts is to the plain state.
use Rattle.std.proofs.Common.{◌≡◌, ℕ, ◌<◌, Bool, List, [], vec_len, length, get_or, slice_set, sym, ◌∙◌, ap, arith}
use Rattle.std.specs.Vec.{with_item}
use Rattle.gup_plain.specs.Put.{put}
use Rattle.gup_plain.specs.State.{PlainState, Handle, unmade, held, Pending}
use Rattle.gup_plain.specs.Event.{happened, pending_objects, write_flag}
use Rattle.gup_plain.specs.declared.event.PlainEvent.TheVariants as events
use Rattle.gup_exec_parts.specs.declared.actor.Actor.{Actor}
use Rattle.gup_exec_plain.specs.declared.parts.Parts.{Parts}
use Rattle.gup_exec_plain.specs.Parts.{state_of, spaces_of, other_state, with_spaces, pending_of, stores_of, handles_of}
use Rattle.gup_exec_parts.specs.Actor.{store_of}
use Rattle.gup_exec_parts.specs.Tables.{at_place}
use Rattle.gup_exec_parts.proofs.TableLemmas.{place_put, place_is, put_same}

-- the actor with this number is at this index, and is so
pub record AtActor (v : Parts) (a i : ℕ) (was : Actor) : Type 0 where
  pub index : i ≡ a
  pub below : a < vec_len v.actors
  pub is : was ≡ get_or v.actors.items i was

abbrev taken_of : Actor → List Pending
taken_of a = a.taken.items

within : (v : Parts) (a i : ℕ) (was : Actor) → AtActor v a i was → a < length v.actors.items
within v a i was at = let small = at.below in omega (arith, v.actors.ok.0)

pub pending-at : (v : Parts) (a i : ℕ) (was : Actor) → AtActor v a i was → pending_of v a ≡ was.taken.items
pending-at v a i was at = place_is taken_of [] v.actors.items a i was at.index (within v a i was at) at.is

pub taken_changed : (v : Parts) (a i : ℕ) (was now : Actor) → AtActor v a i was → now.store ≡ was.store
    → state_of (record v { actors = with_item v.actors i now }) ≡ record (state_of v) { pending = put a now.taken.items (pending_of v) }
taken_changed v a i was now at same =
    let inside = within v a i was at in
    let pending = place_put taken_of [] v.actors.items a i now at.index inside in
    let was_store = place_is store_of (λ _. 0) v.actors.items a i was at.index inside at.is in
    let store = place_put store_of (λ _. 0) v.actors.items a i now at.index inside
    ∙ put_same a (stores_of v) (store_of now) (ap (λ m. store_of (record was { store = m })) same ∙ sym was_store) in
    ap (λ (p : ℕ → List Pending). with_spaces (record (other_state v) { pending = p; store = at_place store_of (λ _. 0) (slice_set v.actors.items i now) }) (spaces_of v)) pending
    ∙ ap (λ (s : ℕ → ℕ → ℕ). with_spaces (record (other_state v) { pending = put a now.taken.items (pending_of v); store = s }) (spaces_of v)) store

pub same_taken : (v : Parts) (a i : ℕ) (was now : Actor) → AtActor v a i was → now.store ≡ was.store → now.taken.items ≡ was.taken.items
    → state_of (record v { actors = with_item v.actors i now }) ≡ state_of v
same_taken v a i was now at store taken =
    taken_changed v a i was now at store
    ∙ ap (λ (p : ℕ → List Pending). record (state_of v) { pending = p }) (put_same a (pending_of v) now.taken.items (taken ∙ sym (pending-at v a i was at)))

pub pin_changed : (v : Parts) (h j : ℕ) (pin : Handle) → j ≡ h → h < vec_len v.pins
    → state_of (record v { pins = with_item v.pins j pin }) ≡ record (state_of v) { handle = put h pin (handles_of v) }
pin_changed v h j pin index below =
    let inside : h < length v.pins.items = omega (arith, v.pins.ok.0) in
    ap (λ (f : ℕ → Handle). with_spaces (record (other_state v) { handle = f }) (spaces_of v)) (place_put (λ (x : Handle). x) unmade v.pins.items h j pin index inside)

pub pin-at : (v : Parts) (h j : ℕ) (was : Handle) → j ≡ h → h < vec_len v.pins → was ≡ get_or v.pins.items j was → handles_of v h ≡ was
pin-at v h j was index below is =
    let inside : h < length v.pins.items = omega (arith, v.pins.ok.0) in
    place_is (λ (x : Handle). x) unmade v.pins.items h j was index inside is

pub pin_made : (v : Parts) (a h i j : ℕ) (was now : Actor) (pin : Handle) (objects : List ℕ) (write : Bool) → AtActor v a i was → j ≡ h → h < vec_len v.pins
    → now.store ≡ was.store → now.taken.items ≡ [] → pin ≡ held a objects write → objects ≡ pending_objects (pending_of v a) → write ≡ write_flag (pending_of v a)
    → state_of (record v { pins = with_item v.pins j pin; actors = with_item v.actors i now }) ≡ happened (state_of v) (events.PinOk a h)
pin_made v a h i j was now pin objects write at index below store emptied pin_is objects_are write_is =
    let v' : Parts = record v { pins = with_item v.pins j pin } in
    let at' : AtActor v' a i was = record { index = at.index; below = at.below; is = at.is } in
    let full : Handle = held a (pending_objects (pending_of v a)) (write_flag (pending_of v a)) in
    let pin_full : pin ≡ full =
    pin_is ∙ ap (λ (os : List ℕ). held a os write) objects_are ∙ ap (λ (w : Bool). held a (pending_objects (pending_of v a)) w) write_is in
    taken_changed v' a i was now at' store
    ∙ ap (λ (t : List Pending). record (state_of v') { pending = put a t (pending_of v) }) emptied
    ∙ ap (λ (s : PlainState). record s { pending = put a [] (pending_of v) }) (pin_changed v h j pin index below)
    ∙ ap (λ (k : Handle). record (state_of v) { handle = put h k (handles_of v); pending = put a [] (pending_of v) }) pin_full
