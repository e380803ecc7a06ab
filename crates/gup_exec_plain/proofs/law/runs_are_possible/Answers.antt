use Rattle.std.proofs.Common.{◌≤◌, ◌==◌, true, refl, arith}
use Rattle.std.proofs.lemmas.Bool.Decides.{nat_tests}
use Rattle.gup_base.specs.declared.entry.Rights.TheVariants.{RW}
use Rattle.gup_plain.specs.declared.event.PlainEvent.TheVariants.{Map, Load, Store, PinTry, PinOk, MoveOut, MoveIn, ForkBegin, ForkPage, ForkEnd}
use Rattle.gup_plain.specs.State.{PlainState, plain_start}
use Rattle.gup_plain.specs.Event.{CanHappen, happened, page_numbers}
use Rattle.gup_exec_plain.proofs.law.runs_are_possible.Goals as goal

abbrev s0 : PlainState
s0 = plain_start (λ p. p == 0)

abbrev s1 : PlainState
s1 = happened s0 (Map 0 0 5 1 RW)

abbrev s2 : PlainState
s2 = happened s1 (Store 0 0 5 3 7)

abbrev s3 : PlainState
s3 = happened s2 (PinTry 0 0 5 true)

abbrev s4 : PlainState
s4 = happened s3 (PinOk 0 0)

abbrev s5 : PlainState
s5 = happened s4 (MoveOut 0 0 3 2 7)

abbrev s6 : PlainState
s6 = happened s5 (MoveIn 0 0 4 2 7)

abbrev s7 : PlainState
s7 = happened s6 (ForkBegin 0 1)

abbrev s8 : PlainState
s8 = happened s7 (ForkPage 0 1 5)

abbrev s9 : PlainState
s9 = happened s8 (ForkEnd 0 1)

few : 6 ≤ page_numbers
unfolding page_numbers
few = omega arith

c1 : CanHappen s0 (Map 0 0 5 1 RW)
c1 = (refl, few, λ k is. refl, omega arith)

c2 : CanHappen s1 (Store 0 0 5 3 7)
c2 = (refl, refl)

c3 : CanHappen s2 (PinTry 0 0 5 true)
c3 = (refl, refl, λ has. omega (arith, has.1))

c4 : CanHappen s3 (PinOk 0 0)
c4 = (refl, λ k d is. grind arith)

c5 : CanHappen s4 (MoveOut 0 0 3 2 7)
c5 = ((refl, omega arith, omega arith), refl)

c6 : CanHappen s5 (MoveIn 0 0 4 2 7)
c6 = ((refl, omega arith, omega arith), refl, refl)

c7 : CanHappen s6 (ForkBegin 0 1)
c7 = (refl, refl)

c8 : CanHappen s7 (ForkPage 0 1 5)
c8 = ((refl, refl, refl), λ word is. refl)

c9 : CanHappen s8 (ForkEnd 0 1)
c9 = (refl, λ page word is in_page. grind (arith, nat_tests))

c10 : CanHappen s9 (Load 0 1 5 4 7)
c10 = ((refl, refl), grind (arith, nat_tests))

pub returns : goal.returns
returns c = (c1, (c2, (c3, (c4, (c5, (c6, (c7, (c8, (c9, (c10, tt))))))))))
