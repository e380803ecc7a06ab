use Rattle.gup_read_words.proofs.WordCuts.{word_cut}
use Rattle.gup_read_words.proofs.text.cut_word.Goals as goal

pub returns : goal.returns
returns c = word_cut c.args.line.now c.cut_at.result c.cut_at.ensures
