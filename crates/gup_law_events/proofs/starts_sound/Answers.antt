-- The start, by its clauses.
use Rattle.gup_law_events.proofs.Start.{sound_start}
use Rattle.gup_law_events.proofs.starts_sound.Goals as goal

pub returns : goal.returns
returns c = sound_start
