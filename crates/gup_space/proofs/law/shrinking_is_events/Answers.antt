-- Its empty tables go by events.
use Rattle.gup_space.proofs.Changes.{shrunk_shown, kept_shrunk}
use Rattle.gup_space.proofs.law.shrinking_is_events.Goals as goal

pub returns-clause-shrunk : goal.returns-clause-shrunk
returns-clause-shrunk c = λ b s a p page shown. shrunk_shown p a page b s shown

pub returns-clause-others : goal.returns-clause-others
returns-clause-others c = λ s a p page. kept_shrunk p a page s
