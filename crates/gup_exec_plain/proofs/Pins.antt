-- The events of pins, of handles, of words and of mirror slots leave a tidy state.
use Rattle.std.proofs.Common.{ℕ, ◌*◌, ◌/◌, ◌<◌, ◌==◌, not, Bool, true, false, length, [], ◌∷◌, ◌++◌, arith}
use Rattle.std.specs.Prelude.{IsSome, All}
use Rattle.std.proofs.lemmas.Bool.Decides.{nat_tests}
use Rattle.std.proofs.lemmas.List.Elements.{All-nil, All-push, All-filter, All-map}
use Rattle.gup_base.specs.declared.entry.Rights.TheVariants.{RW}
use Rattle.gup_plain.specs.declared.event.PlainEvent.TheVariants.{Store, PinTry, PinDrop, PinOk, MoveIn}
use Rattle.gup_plain.specs.Put.{put}
use Rattle.gup_plain.specs.State.{PlainState, Pending, Handle, objects_of}
use Rattle.gup_plain.specs.Event.{CanHappen, happened, object_at, words, MayPin}
use Rattle.gup_exec_plain.proofs.Puts.{put_each}
use Rattle.gup_exec_plain.proofs.Tidy.{IsTidy, HandleMade, PendingMade, UnmadeZero}

pub tidy-Store : (s : PlainState) (a p page word value : ℕ) → IsTidy s → CanHappen s (Store a p page word value) → IsTidy (happened s (Store a p page word value))
tidy-Store s a p page word value h c =
    let S : PlainState = happened s (Store a p page word value) in
    let unmade_zero : UnmadeZero S = λ o w. grind (arith, nat_tests, h.unmade_zero o w, h.named_made p page RW c.1) in
    assumption

-- a page that may be pinned is named
allowed_is_named : (s : PlainState) (p page : ℕ) (write : Bool) → MayPin s p page write → IsSome (s.right p page)
allowed_is_named s p page true is = grind arith
allowed_is_named s p page false is = is

pub tidy-PinTry : (s : PlainState) (a p page : ℕ) (write : Bool) → IsTidy s → CanHappen s (PinTry a p page write) → IsTidy (happened s (PinTry a p page write))
tidy-PinTry s a p page write h c =
    let S : PlainState = happened s (PinTry a p page write) in
    let t : Pending = record { page = page; object = s.object p page; write = write } in
    let named : IsSome (s.right p page) = allowed_is_named s p page write c.1 in
    let made : t.object < s.made = grind (arith, h.named_made p page) in
    let IsMade : Pending → Type 0 = λ u. u.object < s.made in
    let pending_made : PendingMade S = put_each (All IsMade) a (s.pending a ++ t ∷ []) s.pending (All-push IsMade (s.pending a) t (h.pending_made a) made) h.pending_made in
    assumption

pub tidy-PinDrop : (s : PlainState) (a page : ℕ) → IsTidy s → IsTidy (happened s (PinDrop a page))
tidy-PinDrop s a page h =
    let S : PlainState = happened s (PinDrop a page) in
    let IsMade : Pending → Type 0 = λ u. u.object < s.made in
    let pending_made : PendingMade S = put_each (All IsMade) a _ s.pending (All-filter (λ (t : Pending). not (t.page == page)) IsMade (s.pending a) (h.pending_made a)) h.pending_made in
    assumption

pub tidy-PinOk : (s : PlainState) (a handle : ℕ) → IsTidy s → IsTidy (happened s (PinOk a handle))
tidy-PinOk s a handle h =
    let S : PlainState = happened s (PinOk a handle) in
    let pending_made : PendingMade S = put_each (All (λ (u : Pending). u.object < s.made)) a [] s.pending (All-nil _) h.pending_made in
    let handle_made : HandleMade S = put_each (λ x. All (λ o. o < s.made) (objects_of x)) handle _ s.handle (All-map (λ o. o < s.made) (λ (t : Pending). t.object) (s.pending a) (h.pending_made a)) h.handle_made in
    assumption

-- the handle's objects stay, or there are none any more
pub tidy-handle : (s : PlainState) (handle : ℕ) (new : Handle) → IsTidy s → All (λ o. o < s.made) (objects_of new) → IsTidy (record s { handle = put handle new s.handle })
tidy-handle s handle new h here =
    let S : PlainState = record s { handle = put handle new s.handle } in
    let handle_made : HandleMade S = put_each (λ x. All (λ o. o < s.made) (objects_of x)) handle new s.handle here h.handle_made in
    assumption

-- the word is in one of the handle's pages
pub has_page : (h : Handle) (index : ℕ) → index < words * length (objects_of h) → index / words < length (objects_of h)
has_page h index is = omega arith

pub tidy-MoveIn : (s : PlainState) (a handle index slot value : ℕ) → IsTidy s → CanHappen s (MoveIn a handle index slot value) → IsTidy (happened s (MoveIn a handle index slot value))
tidy-MoveIn s a handle index slot value h c =
    let S : PlainState = happened s (MoveIn a handle index slot value) in
    let inside = has_page (s.handle handle) index c.0.1 in
    let made : object_at (s.handle handle) index < s.made = h.handle_made handle (index / words) 0 inside in
    let unmade_zero : UnmadeZero S = λ o w. grind (arith, nat_tests, h.unmade_zero o w) in
    assumption
