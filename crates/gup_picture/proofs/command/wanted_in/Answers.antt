use Rattle.std.proofs.Common.{◌≡◌, ◌≤◌, map, subst, arith}
use Rattle.std.specs.Prelude.{string_bytes}
use Rattle.gup_picture.specs.Asking.{Wish, first_shown, last_shown}
use Rattle.gup_picture.specs.Choices.{choice_of, wish_of}
use Rattle.gup_picture.proofs.Asking.{one_read, no_new, no_first, one_wish}
use Rattle.gup_picture.proofs.FirstWords.{some_left, none_left}
use Rattle.gup_picture.proofs.command.wanted_in.Goals as goal

pub returns-in_default-clause-none : goal.returns-in_default-clause-none
returns-in_default-clause-none c = λ same (wish, (asks, ordered)).
    no_first (map string_bytes c.args.words.now) (map string_bytes c.loop-rest.rest.now) (wish_of c.loop-rest.wanted) wish c.loop-rest.invariant c.in_default.ensures (some_left string_bytes c.loop-rest.rest.now c.is_empty.result c.is_empty.ensures c.loop-rest-test.true) asks

pub returns-then-not-add-clause-none : goal.returns-then-not-add-clause-none
returns-then-not-add-clause-none c = λ same (wish, (asks, ordered)).
    no_new (map string_bytes c.args.words.now) (map string_bytes c.loop-rest.rest.now) (map string_bytes c.in-Some.first.behind.now) (choice_of c.in-Some.first.choice) (wish_of c.loop-rest.wanted) wish c.loop-rest.invariant c.in-Some.ensures c.if-not-add.ensures asks

pub loop-rest-preserved : goal.loop-rest-preserved
loop-rest-preserved c =
    one_read (map string_bytes c.args.words.now) (map string_bytes c.loop-rest.rest.now) (map string_bytes c.in-Some.first.behind.now) (choice_of c.in-Some.first.choice) (wish_of c.loop-rest.wanted) (wish_of c.add.new.self) c.loop-rest.invariant c.in-Some.ensures c.if-not-add.ensures.0 c.if-not-add.ensures.1

pub returns-then-first-last-clause-one : goal.returns-then-first-last-clause-one
returns-then-first-last-clause-one c = λ wish asked.
    one_wish (map string_bytes c.args.words.now) (map string_bytes c.loop-rest.rest.now) (wish_of c.loop-rest.wanted) wish c.loop-rest.invariant (none_left string_bytes c.loop-rest.rest.now c.is_empty.result c.is_empty.ensures c.loop-rest-test.false) asked.0

pub returns-else-first-last-clause-none : goal.returns-else-first-last-clause-none
returns-else-first-last-clause-none c = λ same (wish, (asks, ordered)).
    let is : wish ≡ wish_of c.loop-rest.wanted = one_wish (map string_bytes c.args.words.now) (map string_bytes c.loop-rest.rest.now) (wish_of c.loop-rest.wanted) wish c.loop-rest.invariant (none_left string_bytes c.loop-rest.rest.now c.is_empty.result c.is_empty.ensures c.loop-rest-test.false) asks in
    let also = subst (λ (w : Wish). first_shown w ≤ last_shown w) is ordered in
    omega (arith, also, c.first.ensures, c.last.ensures, c.if-first-last.false)
