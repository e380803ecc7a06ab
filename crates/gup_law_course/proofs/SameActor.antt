-- An event that says the same as another is of the same actor.
use Rattle.std.proofs.Common.{◌≡◌, ℕ, true, arith}
use Rattle.std.proofs.lemmas.Bool.Decides.{nat_tests}
use Rattle.gup_plain.specs.declared.event.PlainEvent.{PlainEvent}
use Rattle.gup_plain.specs.declared.event.PlainEvent.TheVariants.{Map, Unmap, Discard, Protect, Load, Store, PinTry, PinDrop, PinOk, Unpin, Give, Take, MoveOut, MoveIn, MirrorFill, Look, ForkBegin, ForkPage, ForkWord, ForkEnd, ForkFail}
use Rattle.gup_exec_plain.specs.Parts.{HasActor}
use Rattle.gup_check_course.specs.Same.{same_event}

pub same_actor : (e f : PlainEvent) (n : ℕ) → same_event e f ≡ true → HasActor n f → HasActor n e
same_actor (Map a p page k r) (Map b q g m s) n is less = grind (arith, nat_tests)
same_actor (Unmap a p page) (Unmap b q g) n is less = grind (arith, nat_tests)
same_actor (Discard a p page) (Discard b q g) n is less = grind (arith, nat_tests)
same_actor (Protect a p page k r) (Protect b q g m s) n is less = grind (arith, nat_tests)
same_actor (Load a p page w v) (Load b q g x u) n is less = grind (arith, nat_tests)
same_actor (Store a p page w v) (Store b q g x u) n is less = grind (arith, nat_tests)
same_actor (PinTry a p page w) (PinTry b q g x) n is less = grind (arith, nat_tests)
same_actor (PinDrop a page) (PinDrop b g) n is less = grind (arith, nat_tests)
same_actor (PinOk a h) (PinOk b i) n is less = grind (arith, nat_tests)
same_actor (Unpin a h) (Unpin b i) n is less = grind (arith, nat_tests)
same_actor (Give a h to) (Give b i at) n is less = grind (arith, nat_tests)
same_actor (Take a h) (Take b i) n is less = grind (arith, nat_tests)
same_actor (MoveOut a h k s v) (MoveOut b i l t u) n is less = grind (arith, nat_tests)
same_actor (MoveIn a h k s v) (MoveIn b i l t u) n is less = grind (arith, nat_tests)
same_actor (MirrorFill a m p page) (MirrorFill b l q g) n is less = grind (arith, nat_tests)
same_actor (Look a m w v) (Look b l x u) n is less = grind (arith, nat_tests)
same_actor (ForkBegin p c) f n is less = tt
same_actor (ForkPage p c page) f n is less = tt
same_actor (ForkWord p c page w) f n is less = tt
same_actor (ForkEnd p c) f n is less = tt
same_actor (ForkFail c) f n is less = tt
same_actor e f n is less = absurd (cc is)
