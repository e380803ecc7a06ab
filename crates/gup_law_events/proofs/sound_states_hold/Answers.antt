-- What is published of a sound state, by the view of it.
use Rattle.gup_law_events.proofs.PublishedRules.{published}
use Rattle.gup_law_events.proofs.sound_states_hold.Goals as goal

pub returns : goal.returns
returns c = λ s sound. published sound.0 s sound.1
