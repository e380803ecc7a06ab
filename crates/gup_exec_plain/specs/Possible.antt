-- A run that shows that the laws speak of something: events that can happen one after another.
use Rattle.std.specs.Prelude.{true, List, [], ◌∷◌}
use Rattle.gup_base.specs.declared.entry.Rights.TheVariants.{RW}
use Rattle.gup_plain.specs.declared.event.PlainEvent.{PlainEvent}
use Rattle.gup_plain.specs.declared.event.PlainEvent.TheVariants.{Map, Store, PinTry, PinOk, MoveOut, MoveIn, ForkBegin, ForkPage, ForkEnd, Load}

-- Process 0 maps page 5, writes a 7 into word 3 and pins the page. Its actor reads that word through the pin and
-- writes it to word 4. Then the process forks, and its child finds the 7 in word 4.
abbrev pub one_run : List PlainEvent
one_run =
    Map 0 0 5 1 RW
    ∷ Store 0 0 5 3 7
    ∷ PinTry 0 0 5 true
    ∷ PinOk 0 0
    ∷ MoveOut 0 0 3 2 7
    ∷ MoveIn 0 0 4 2 7
    ∷ ForkBegin 0 1
    ∷ ForkPage 0 1 5
    ∷ ForkEnd 0 1
    ∷ Load 0 1 5 4 7
    ∷ []
