-- What a page names was written by its owner: an object is named by one page at most, and a page that names an object
-- named it ever since the object was made.
use Rattle.std.proofs.Common.{◌≡◌, ℕ, ◌/◌, ◌%◌, ◌<◌, ◌≤◌, true, List, [], ◌∷◌, sym, ◌∙◌, arith}
use Rattle.std.specs.Prelude.{Some, IsSome}
use Rattle.std.proofs.lemmas.Bool.Decides.{nat_tests}
use Rattle.std.proofs.lemmas.List.Elements.{Contains-get_or}
use Rattle.gup_base.specs.declared.entry.Rights.TheVariants.{RW}
use Rattle.gup_plain.specs.Put.{within}
use Rattle.gup_plain.specs.declared.event.PlainEvent.{PlainEvent}
use Rattle.gup_plain.specs.declared.event.PlainEvent.TheVariants.{Map, Unmap, Discard, Protect, Load, Store, PinTry, PinDrop, PinOk, Unpin, Give, Take, MoveOut, MoveIn, MirrorFill, Look, ForkBegin, ForkPage, ForkWord, ForkEnd, ForkFail}
use Rattle.gup_plain.specs.State.{PlainState, objects_of}
use Rattle.gup_plain.specs.Event.{CanHappen, happened, object_at, words}
use Rattle.gup_exec_plain.specs.LastWrite.{ArePossible, after, at_word, written_by, Names, IsByOwner}
use Rattle.gup_exec_plain.proofs.Tidy.{IsTidy}
use Rattle.gup_exec_plain.proofs.Puts.{within_has, some_value}
use Rattle.gup_exec_plain.proofs.Pins.{has_page}

-- what was made stays made
pub made_grows : (s : PlainState) (e : PlainEvent) → s.made ≤ (happened s e).made
made_grows s (Map a p page n rights) = omega arith
made_grows s (Discard a p page) = omega arith
made_grows s (ForkBegin parent child) = omega arith
made_grows s e = omega arith

-- a page that names an object that was made before the event named it then
pub named_before : (s : PlainState) (e : PlainEvent) (p page o : ℕ) → CanHappen s e → o < s.made → Names (happened s e) p page o → Names s p page o
named_before s (Map a q first n rights) p page o c made names =
    let is : IsSome ((happened s (Map a q first n rights)).right p page) = names.0 in
    let at : (happened s (Map a q first n rights)).object p page ≡ o = names.1 in
    (grind (arith, nat_tests), grind (arith, nat_tests))
named_before s (Unmap a q g) p page o c made names =
    let is : IsSome ((happened s (Unmap a q g)).right p page) = names.0 in
    let at : (happened s (Unmap a q g)).object p page ≡ o = names.1 in
    (grind (arith, nat_tests), grind (arith, nat_tests))
named_before s (Discard a q g) p page o c made names =
    let at : (happened s (Discard a q g)).object p page ≡ o = names.1 in
    (names.0, grind (arith, nat_tests))
named_before s (Protect a q first n rights) p page o c made names =
    let is : IsSome ((happened s (Protect a q first n rights)).right p page) = names.0 in
    let inside : within first n page ≡ true → IsSome (s.right q page) = within_has (s.right q) first n c.1 page in
    (grind (arith, nat_tests), names.1)
named_before s (ForkBegin parent child) p page o c made names =
    let is : IsSome ((happened s (ForkBegin parent child)).right p page) = names.0 in
    let at : (happened s (ForkBegin parent child)).object p page ≡ o = names.1 in
    (grind (arith, nat_tests), grind (arith, nat_tests))
named_before s (ForkFail child) p page o c made names =
    let is : IsSome ((happened s (ForkFail child)).right p page) = names.0 in
    let at : (happened s (ForkFail child)).object p page ≡ o = names.1 in
    (grind (arith, nat_tests), grind (arith, nat_tests))
named_before s (Load a q g word value) p page o c made names = names
named_before s (Store a q g word value) p page o c made names = names
named_before s (PinTry a q g write) p page o c made names = names
named_before s (PinDrop a g) p page o c made names = names
named_before s (PinOk a handle) p page o c made names = names
named_before s (Unpin a handle) p page o c made names = names
named_before s (Give a handle to) p page o c made names = names
named_before s (Take a handle) p page o c made names = names
named_before s (MoveOut a handle index slot value) p page o c made names = names
named_before s (MoveIn a handle index slot value) p page o c made names = names
named_before s (MirrorFill a m q g) p page o c made names = names
named_before s (Look a m word value) p page o c made names = names
named_before s (ForkPage parent child g) p page o c made names = names
named_before s (ForkWord parent child g word) p page o c made names = names
named_before s (ForkEnd parent child) p page o c made names = names

pub named_long_before : (s : PlainState) (es : List PlainEvent) (p page o : ℕ) → ArePossible s es → o < s.made → Names (after s es) p page o → Names s p page o
named_long_before s [] p page o possible made names = names
named_long_before s (e ∷ es) p page o possible made names =
    let grown : o < (happened s e).made = omega (arith, made_grows s e) in
    named_before s e p page o possible.0 made (named_long_before (happened s e) es p page o possible.1 grown names)

-- an event writes at the object and the word that it is of
at_word_is : (object word o w value found : ℕ) → at_word object word o w value ≡ Some found → object ≡ o
at_word_is object word o w value found is = grind (arith, nat_tests)

-- what an event writes to was made
pub written_is_made : (s : PlainState) (e : PlainEvent) (o w value : ℕ) → IsTidy s → CanHappen s e → written_by s e o w ≡ Some value → o < s.made
written_is_made s (Store a p page word found) o w value h c is =
    let same = at_word_is (s.object p page) word o w found value is in
    omega (arith, h.named_made p page RW c.1)
written_is_made s (MoveIn a handle index slot found) o w value h c is =
    let same = at_word_is (object_at (s.handle handle) index) (index % words) o w found value is in
    let inside = has_page (s.handle handle) index c.0.1 in
    omega (arith, h.handle_made handle (index / words) 0 inside)
written_is_made s (ForkWord parent child page word) o w value h c is =
    let same = at_word_is (s.object child page) word o w _ value is in
    let named = some_value (s.right child page) c.0.2 in
    omega (arith, h.named_made child page named.0 named.1)
written_is_made s (ForkPage parent child page) o w value h c is =
    let same : s.object child page ≡ o = grind (arith, nat_tests) in
    let named = some_value (s.right child page) c.0.2 in
    omega (arith, h.named_made child page named.0 named.1)
written_is_made s e o w value h c is = absurd (cc)

-- of whoever names the object that an event writes to, the event is one of its owner's
pub is_by_owner : (s : PlainState) (e : PlainEvent) (p page o w value : ℕ) → IsTidy s → CanHappen s e → written_by s e o w ≡ Some value → Names s p page o → IsByOwner s p page o e
is_by_owner s (Store a q g word found) p page o w value h c is names =
    let same = at_word_is (s.object q g) word o w found value is in
    let named = some_value (s.right p page) names.0 in
    h.named_alone q g p page RW named.0 c.1 named.1 (same ∙ sym names.1)
is_by_owner s (MoveIn a handle index slot found) p page o w value h c is names =
    let same = at_word_is (object_at (s.handle handle) index) (index % words) o w found value is in
    let inside = has_page (s.handle handle) index c.0.1 in
    rw same at (Contains-get_or (objects_of (s.handle handle)) (index / words) 0 inside)
is_by_owner s (ForkWord parent child g word) p page o w value h c is names =
    let same = at_word_is (s.object child g) word o w _ value is in
    let here = some_value (s.right child g) c.0.2 in
    let named = some_value (s.right p page) names.0 in
    h.named_alone child g p page here.0 named.0 here.1 named.1 (same ∙ sym names.1)
is_by_owner s (ForkPage parent child g) p page o w value h c is names =
    let same : s.object child g ≡ o = grind (arith, nat_tests) in
    let here = some_value (s.right child g) c.0.2 in
    let named = some_value (s.right p page) names.0 in
    h.named_alone child g p page here.0 named.0 here.1 named.1 (same ∙ sym names.1)
is_by_owner s e p page o w value h c is names = absurd (cc)
