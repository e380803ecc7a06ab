use Rattle.gup_read.proofs.Answers.{accepted, refused}
use Rattle.gup_read.proofs.read.read_script.Goals as goal

pub returns-clause-script : goal.returns-clause-script
returns-clause-script c = accepted c.args.text.now c.script.result c.script.ensures

pub returns-clause-refused : goal.returns-clause-refused
returns-clause-refused c = refused c.args.text.now c.script.result c.script.ensures
