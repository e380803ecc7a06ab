use Rattle.std.proofs.Common.{◌∙◌}
use Rattle.gup_exec_parts.specs.Contents.{content_of}
use Rattle.gup_exec_jobs.proofs.RangeLemmas.{spread_one}
use Rattle.gup_exec_jobs.proofs.needs.clear_one.Goals as goal

pub returns-clause-content : goal.returns-clause-content
returns-clause-content c = c.clear.ensures.content ∙ spread_one c.args.object (λ _. 0) (content_of c.args.contents.now)
