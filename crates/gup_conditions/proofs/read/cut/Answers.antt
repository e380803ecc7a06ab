use Rattle.std.proofs.Common.{lit<}
use Rattle.std.proofs.lemmas.Str.Pattern.{split_parts}
use Rattle.gup_conditions.proofs.PieceTexts.{lacking}
use Rattle.gup_conditions.proofs.read.cut.Goals as goal

pub returns : goal.returns
returns c = lacking c.args.text.now c.split_once.result (split_parts 32 c.args.text.now c.split_once.result c.split_once.ensures.cases (lit< tt))
