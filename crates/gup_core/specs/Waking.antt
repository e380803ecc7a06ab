-- Whom a turn wakes, as the machine says it.
use Rattle.gup_law_waits.specs.Woken.{Woken, nobody, one, everybody}
use Rattle.gup_core.specs.declared.outcome.Woken.{Woken as SaidWoken}
use Rattle.gup_core.specs.declared.outcome.Woken.TheVariants as said

abbrev pub woken_of : SaidWoken → Woken
woken_of said.Nobody = nobody
woken_of (said.One actor) = one actor
woken_of said.Everybody = everybody
