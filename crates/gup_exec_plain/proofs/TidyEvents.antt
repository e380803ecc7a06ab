-- Each event that can happen in a tidy state leaves one, and so does a list of events.
use Rattle.std.proofs.Common.{◌≡◌, List, [], ◌∷◌, ◌++◌, refl}
use Rattle.std.proofs.lemmas.List.Elements.{All-nil}
use Rattle.gup_plain.specs.declared.event.PlainEvent.{PlainEvent}
use Rattle.gup_plain.specs.declared.event.PlainEvent.TheVariants.{Map, Unmap, Discard, Protect, Load, Store, PinTry, PinDrop, PinOk, Unpin, Give, Take, MoveOut, MoveIn, MirrorFill, Look, ForkBegin, ForkPage, ForkWord, ForkEnd, ForkFail}
use Rattle.gup_plain.specs.State.{PlainState}
use Rattle.gup_plain.specs.Event.{CanHappen, happened}
use Rattle.gup_exec_plain.specs.LastWrite.{ArePossible, after}
use Rattle.gup_exec_plain.proofs.Tidy.{IsTidy}
use Rattle.gup_exec_plain.proofs.Mappings.{tidy-Map, tidy-Unmap, tidy-Discard, tidy-Protect}
use Rattle.gup_exec_plain.proofs.TidyForks.{tidy-ForkBegin, tidy-ForkPage, tidy-ForkWord, tidy-ForkEnd, tidy-ForkFail}
use Rattle.gup_exec_plain.proofs.Pins.{tidy-Store, tidy-PinTry, tidy-PinDrop, tidy-PinOk, tidy-handle, tidy-MoveIn}

pub tidy_after_event : (s : PlainState) (e : PlainEvent) → IsTidy s → CanHappen s e → IsTidy (happened s e)
tidy_after_event s (Map a p page n rights) h c = tidy-Map s a p page n rights h c
tidy_after_event s (Unmap a p page) h c = tidy-Unmap s a p page h c
tidy_after_event s (Discard a p page) h c = tidy-Discard s a p page h c
tidy_after_event s (Protect a p page n rights) h c = tidy-Protect s a p page n rights h c
tidy_after_event s (Load a p page word value) h c = h
tidy_after_event s (Store a p page word value) h c = tidy-Store s a p page word value h c
tidy_after_event s (PinTry a p page write) h c = tidy-PinTry s a p page write h c
tidy_after_event s (PinDrop a page) h c = tidy-PinDrop s a page h
tidy_after_event s (PinOk a handle) h c = tidy-PinOk s a handle h
tidy_after_event s (Unpin a handle) h c = tidy-handle s handle _ h (All-nil _)
tidy_after_event s (Give a handle to) h c = tidy-handle s handle _ h (h.handle_made handle)
tidy_after_event s (Take a handle) h c = tidy-handle s handle _ h (h.handle_made handle)
tidy_after_event s (MoveOut a handle index slot value) h c = assumption
tidy_after_event s (MoveIn a handle index slot value) h c = tidy-MoveIn s a handle index slot value h c
tidy_after_event s (MirrorFill a m p page) h c = assumption
tidy_after_event s (Look a m word value) h c = h
tidy_after_event s (ForkBegin parent child) h c = tidy-ForkBegin s parent child h c
tidy_after_event s (ForkPage parent child page) h c = tidy-ForkPage s parent child page h c
tidy_after_event s (ForkWord parent child page word) h c = tidy-ForkWord s parent child page word h c
tidy_after_event s (ForkEnd parent child) h c = tidy-ForkEnd s parent child h
tidy_after_event s (ForkFail child) h c = tidy-ForkFail s child h

pub tidy_after : (s : PlainState) (es : List PlainEvent) → IsTidy s → ArePossible s es → IsTidy (after s es)
tidy_after s [] h possible = h
tidy_after s (e ∷ es) h possible = tidy_after (happened s e) es (tidy_after_event s e h possible.0) possible.1

-- a list of events in two parts: the second is possible after the first
pub possible_parts : (s : PlainState) (front back : List PlainEvent) → ArePossible s (front ++ back) → ArePossible s front × ArePossible (after s front) back
possible_parts s [] back possible = (tt, possible)
possible_parts s (e ∷ es) back possible =
    let parts = possible_parts (happened s e) es back possible.1 in
    ((possible.0, parts.0), parts.1)

pub after_parts : (s : PlainState) (front back : List PlainEvent) → after s (front ++ back) ≡ after (after s front) back
after_parts s [] back = refl
after_parts s (e ∷ es) back = after_parts (happened s e) es back
