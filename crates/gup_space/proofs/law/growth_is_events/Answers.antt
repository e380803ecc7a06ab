-- A page grows by events.
use Rattle.gup_space.proofs.Changes.{grown_shown, enough_shown, lacks_shown, kept_grown}
use Rattle.gup_space.proofs.law.growth_is_events.Goals as goal

pub returns-clause-grown : goal.returns-clause-grown
returns-clause-grown c = λ b s a p page pool own shown. grown_shown p a page b s pool own shown

pub returns-clause-enough : goal.returns-clause-enough
returns-clause-enough c = λ b s a p page pool own shown. enough_shown p a page b s pool own shown

pub returns-clause-lacks : goal.returns-clause-lacks
returns-clause-lacks c = λ b s p page shown. lacks_shown p b s page shown

pub returns-clause-others : goal.returns-clause-others
returns-clause-others c = λ s a p page. kept_grown p a page s
