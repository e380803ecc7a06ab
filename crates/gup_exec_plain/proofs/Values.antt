-- What is read was last written: at any time the words of all objects are what was last written to them, since the
-- words of a fresh object were 0 before, too.
use Rattle.std.proofs.Common.{◌≡◌, ℕ, ◌<◌, List, [], ◌∷◌, ap, sym, ◌∙◌, refl, arith}
use Rattle.std.specs.Prelude.{Some}
use Rattle.std.proofs.lemmas.Bool.Decides.{nat_tests}
use Rattle.gup_plain.specs.declared.event.PlainEvent.{PlainEvent}
use Rattle.gup_plain.specs.declared.event.PlainEvent.TheVariants.{Map, Unmap, Discard, Protect, Load, Store, PinTry, PinDrop, PinOk, Unpin, Give, Take, MoveOut, MoveIn, MirrorFill, Look, ForkBegin, ForkPage, ForkWord, ForkEnd, ForkFail}
use Rattle.gup_plain.specs.State.{PlainState}
use Rattle.gup_plain.specs.Event.{CanHappen, happened, words}
use Rattle.gup_exec_plain.specs.LastWrite.{ArePossible, after, written_by, or_else, last_written, Reads}
use Rattle.gup_exec_plain.proofs.Tidy.{IsTidy}
use Rattle.gup_exec_plain.proofs.TidyEvents.{tidy_after_event}

-- the word after an event is what the event writes to it, or else the word before
word_after : (s : PlainState) (e : PlainEvent) → IsTidy s → (o w : ℕ) → or_else (written_by s e o w) (s.content o w) ≡ (happened s e).content o w
word_after s (Map a p page n rights) h o w = grind (arith, nat_tests, h.unmade_zero o w)
word_after s (Unmap a p page) h o w = refl
word_after s (Discard a p page) h o w = grind (arith, nat_tests, h.unmade_zero o w)
word_after s (Protect a p page n rights) h o w = refl
word_after s (Load a p page word value) h o w = refl
word_after s (Store a p page word value) h o w = grind (arith, nat_tests)
word_after s (PinTry a p page write) h o w = refl
word_after s (PinDrop a page) h o w = refl
word_after s (PinOk a handle) h o w = refl
word_after s (Unpin a handle) h o w = refl
word_after s (Give a handle to) h o w = refl
word_after s (Take a handle) h o w = refl
word_after s (MoveOut a handle index slot value) h o w = refl
word_after s (MoveIn a handle index slot value) h o w = grind (arith, nat_tests)
word_after s (MirrorFill a m p page) h o w = refl
word_after s (Look a m word value) h o w = refl
word_after s (ForkBegin parent child) h o w = grind (arith, nat_tests, h.unmade_zero o w)
word_after s (ForkPage parent child page) h o w = grind (arith, nat_tests)
word_after s (ForkWord parent child page word) h o w = grind (arith, nat_tests)
word_after s (ForkEnd parent child) h o w = refl
word_after s (ForkFail child) h o w = refl

pub last_written_is : (s : PlainState) (es : List PlainEvent) → IsTidy s → ArePossible s es → (o w before : ℕ) → before ≡ s.content o w → last_written s es o w before ≡ (after s es).content o w
last_written_is s [] h possible o w before is = is
last_written_is s (e ∷ es) h possible o w before is =
    let written : or_else (written_by s e o w) before ≡ (happened s e).content o w = ap (or_else (written_by s e o w)) is ∙ word_after s e h o w in
    last_written_is (happened s e) es (tidy_after_event s e h possible.0) possible.1 o w (or_else (written_by s e o w) before) written

-- what an event reads is the object's word
pub read_is : (s : PlainState) (e : PlainEvent) (o w value : ℕ) → CanHappen s e → Reads s e o w value → value ≡ s.content o w
read_is s (Load a p page word found) o w value c r = cc
read_is s (MoveOut a handle index slot found) o w value c r = cc
read_is s (Look a m word found) o w value c r =
    let same : Some c.0 ≡ Some r.0 = sym c.1 ∙ r.1 in
    cc
read_is s (ForkWord parent child page word) o w value c r =
    let put_there : (happened s (ForkWord parent child page word)).content (s.object child page) word ≡ s.content (s.object parent page) word = grind (arith, nat_tests) in
    cc
read_is s (ForkPage parent child page) o w value c r =
    let inside : w < words = r.1 in
    let put_there : (happened s (ForkPage parent child page)).content (s.object child page) w ≡ s.content (s.object parent page) w = grind (arith, nat_tests) in
    cc
read_is s e o w value c r = elim r [ ]
