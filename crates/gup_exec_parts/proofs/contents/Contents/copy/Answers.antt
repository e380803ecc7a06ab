use Rattle.std.proofs.Common.{ℕ, arith}
use Rattle.std.proofs.lemmas.Grind.{common_steps}
use Rattle.gup_exec_parts.specs.declared.contents.Contents.{Contents}
use Rattle.gup_exec_parts.proofs.ContentsLemmas.{copied-whole}
use Rattle.gup_exec_parts.proofs.contents.Contents.copy.Goals as goal

pub returns-clause-ok : goal.returns-clause-ok
returns-clause-ok c =
    let old : Contents = c.args.self.now in
    let from : ℕ = c.args.from in
    rw (copied-whole old from c.args.to) (grind (arith, common_steps))
