-- Two notes say the same where they are told to.
use Rattle.std.proofs.Common.{◌≡◌, ℕ, ◌==◌, ◌&&◌, Bool, true, false, refl, ap, eq-eqb, arith}
use Rattle.std.proofs.lemmas.Bool.Decides.{nat_tests}
use Rattle.gup_base.specs.declared.entry.Rights.{Rights}
use Rattle.gup_base.specs.declared.entry.Rights.TheVariants.{R, RW}
use Rattle.gup_plain.specs.declared.answer.Answer.{Answer}
use Rattle.gup_plain.specs.declared.answer.Answer.TheVariants as answers
use Rattle.gup_plain.specs.declared.answer.Cause.{Cause}
use Rattle.gup_plain.specs.declared.answer.Cause.TheVariants as causes
use Rattle.gup_plain.specs.declared.event.PlainEvent.{PlainEvent}
use Rattle.gup_plain.specs.declared.event.PlainEvent.TheVariants.{Map, Unmap, Discard, Protect, Load, Store, PinTry, PinDrop, PinOk, Unpin, Give, Take, MoveOut, MoveIn, MirrorFill, Look, ForkBegin, ForkPage, ForkWord, ForkEnd, ForkFail}
use Rattle.gup_plain.specs.declared.note.What.{What}
use Rattle.gup_plain.specs.declared.note.What.TheVariants.{Event, Done}
use Rattle.gup_check_course.specs.Same.{same_flag, same_rights, same_cause, same_answer, same_event, same_what}

pub eqb_self : (n : ℕ) → (n == n) ≡ true
eqb_self n = eq-eqb n n refl

flag_is : (b c : Bool) → same_flag b c ≡ true → b ≡ c
flag_is true true is = refl
flag_is false false is = refl
flag_is b c is = absurd (cc is)

rights_is : (r q : Rights) → same_rights r q ≡ true → r ≡ q
rights_is R R is = refl
rights_is RW RW is = refl
rights_is r q is = absurd (cc is)

cause_is : (c d : Cause) → same_cause c d ≡ true → c ≡ d
cause_is causes.Missing causes.Missing is = refl
cause_is causes.Forbidden causes.Forbidden is = refl
cause_is causes.NoFrame causes.NoFrame is = refl
cause_is (causes.Unmovable m) (causes.Unmovable n) is = grind (arith, nat_tests)
cause_is c d is = absurd (cc is)

answer_is : (x y : Answer) → same_answer x y ≡ true → x ≡ y
answer_is answers.Plain answers.Plain is = refl
answer_is (answers.Value m) (answers.Value n) is = grind (arith, nat_tests)
answer_is (answers.Pinned m) (answers.Pinned n) is = grind (arith, nat_tests)
answer_is (answers.Short k m c) (answers.Short l n d) is = grind (arith, nat_tests, cause_is c d)
answer_is answers.Words answers.Words is = refl
answer_is answers.Missing answers.Missing is = refl
answer_is answers.Forbidden answers.Forbidden is = refl
answer_is (answers.Unmovable m) (answers.Unmovable n) is = grind (arith, nat_tests)
answer_is answers.NoFrame answers.NoFrame is = refl
answer_is answers.NotHeld answers.NotHeld is = refl
answer_is answers.Range answers.Range is = refl
answer_is answers.Overlap answers.Overlap is = refl
answer_is answers.Full answers.Full is = refl
answer_is (answers.Busy m) (answers.Busy n) is = grind (arith, nat_tests)
answer_is answers.Untouched answers.Untouched is = refl
answer_is answers.Stale answers.Stale is = refl
answer_is answers.Unborn answers.Unborn is = refl
answer_is x y is = absurd (cc is)

event_is : (e f : PlainEvent) → same_event e f ≡ true → e ≡ f
event_is (Map a p page n r) (Map b q g m s) is = grind (arith, nat_tests, rights_is r s)
event_is (Unmap a p page) (Unmap b q g) is = grind (arith, nat_tests)
event_is (Discard a p page) (Discard b q g) is = grind (arith, nat_tests)
event_is (Protect a p page n r) (Protect b q g m s) is = grind (arith, nat_tests, rights_is r s)
event_is (Load a p page w v) (Load b q g x u) is = grind (arith, nat_tests)
event_is (Store a p page w v) (Store b q g x u) is = grind (arith, nat_tests)
event_is (PinTry a p page w) (PinTry b q g x) is = grind (arith, nat_tests, flag_is w x)
event_is (PinDrop a page) (PinDrop b g) is = grind (arith, nat_tests)
event_is (PinOk a h) (PinOk b i) is = grind (arith, nat_tests)
event_is (Unpin a h) (Unpin b i) is = grind (arith, nat_tests)
event_is (Give a h to) (Give b i at) is = grind (arith, nat_tests)
event_is (Take a h) (Take b i) is = grind (arith, nat_tests)
event_is (MoveOut a h k s v) (MoveOut b i l t u) is = grind (arith, nat_tests)
event_is (MoveIn a h k s v) (MoveIn b i l t u) is = grind (arith, nat_tests)
event_is (MirrorFill a m p page) (MirrorFill b n q g) is = grind (arith, nat_tests)
event_is (Look a m w v) (Look b n x u) is = grind (arith, nat_tests)
event_is (ForkBegin p c) (ForkBegin q d) is = grind (arith, nat_tests)
event_is (ForkPage p c page) (ForkPage q d g) is = grind (arith, nat_tests)
event_is (ForkWord p c page w) (ForkWord q d g x) is = grind (arith, nat_tests)
event_is (ForkEnd p c) (ForkEnd q d) is = grind (arith, nat_tests)
event_is (ForkFail c) (ForkFail d) is = grind (arith, nat_tests)
event_is e f is = absurd (cc is)

pub what_is : (x y : What) → same_what x y ≡ true → x ≡ y
what_is (Event e) (Event f) is = ap (λ (e : PlainEvent). Event e) (event_is e f is)
what_is (Done x) (Done y) is = ap (λ (x : Answer). Done x) (answer_is x y is)
what_is x y is = absurd (cc is)

flag_self : (b : Bool) → same_flag b b ≡ true
flag_self true = refl
flag_self false = refl

rights_self : (r : Rights) → same_rights r r ≡ true
rights_self R = refl
rights_self RW = refl

cause_self : (c : Cause) → same_cause c c ≡ true
cause_self (causes.Unmovable m) = eqb_self m
cause_self c = refl

pub answer_self : (x : Answer) → same_answer x x ≡ true
answer_self (answers.Value m) = eqb_self m
answer_self (answers.Pinned m) = eqb_self m
answer_self (answers.Short k m c) = simp (eqb_self, cause_self)
answer_self (answers.Unmovable m) = eqb_self m
answer_self (answers.Busy m) = eqb_self m
answer_self x = refl

pub event_self : (e : PlainEvent) → same_event e e ≡ true
event_self (Map a p page n r) = simp (eqb_self, rights_self)
event_self (Protect a p page n r) = simp (eqb_self, rights_self)
event_self (PinTry a p page w) = simp (eqb_self, flag_self)
event_self e = simp (eqb_self)

pub and_false : (b : Bool) → (b && false) ≡ false
and_false true = refl
and_false false = refl
