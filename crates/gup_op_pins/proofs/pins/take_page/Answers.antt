use Rattle.std.proofs.Common.{◌≡◌, ℕ, ◌+◌, ◌<◌, ◌≤◌, ◌==◌, Bool, true, Some, sym, ap, refl, arith}
use Rattle.std.proofs.lemmas.Bool.Decides.{nat_tests}
use Rattle.gup_plain.specs.declared.answer.Answer.TheVariants as answers
use Rattle.gup_plain.specs.declared.event.PlainEvent.TheVariants as events
use Rattle.gup_op_base.specs.Said.{Said, happened_said, done_said}
use Rattle.gup_op_pins.specs.Pins.{tried_whats}
use Rattle.gup_op_pins.proofs.Telling.{told_after}
use Rattle.gup_op_pins.proofs.pins.take_page.Goals as goal

-- what the turn of the last page says
abbrev made_said : (a p page handle n : ℕ) → (write : Bool) → Said
made_said a p page handle n write =
    record { event = Some (events.PinTry a p page write); next = Some (events.PinOk a handle); answer = Some (answers.Pinned n) }

last : (far n : ℕ) → far < n → n ≤ far + 1 → (far + 1 == n) ≡ true
last far n less least = grind (arith, nat_tests)

pub returns-clause-tells : goal.returns-clause-tells
returns-clause-tells c =
    let a = c.args in
    let actor = a.head.now.actor in
    let both = made_said actor a.call.proc a.page a.call.handle a.call.n a.call.want.write in
    record {
      said = both;
      tells =
          told_after a.head.now a.journal.now c.happened.new.journal c.done.new.journal
          (happened_said (events.PinTry actor a.call.proc a.page a.call.want.write)) (done_said (events.PinOk actor a.call.handle) (answers.Pinned a.call.n)) both
          c.happened.ensures.says c.done.ensures refl;
      ends = refl;
      is_so = ap (λ b. tried_whats b actor a.call.proc a.call.handle a.page a.call.n a.call.want.write) (sym (last a.got a.call.n c.requires.within (omega (arith, c.if-got-call.false))));
    }
