use Rattle.std.proofs.Common.{arith}
use Rattle.std.proofs.lemmas.List.{length-map}
use Rattle.gup_script.specs.Views.{actor_value}
use Rattle.gup_read_outline.specs.ReaderViews.{outline_value}
use Rattle.gup_read_outline.proofs.Actors.{few_actors}
use Rattle.gup_read_outline.proofs.reader.Reader.actors.Goals as goal

pub returns-clause-few : goal.returns-clause-few
returns-clause-few c =
    let few = few_actors (outline_value c.self.inside) c.self.invariant in
    omega (arith, few, length-map c.self.inside.contents.actors.items actor_value, c.len.ensures)
