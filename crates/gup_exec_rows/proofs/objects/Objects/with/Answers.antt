use Rattle.std.proofs.Common.{ℕ, Option, Some, refl, ap, ◌∙◌}
use Rattle.gup_exec_rows.specs.Grid.{found}
use Rattle.gup_exec_rows.specs.Objects.{objects_in, numbers, object_of}
use Rattle.gup_exec_rows.proofs.RowLemmas.{through_put}
use Rattle.gup_exec_rows.proofs.objects.Objects.with.Goals as goal

pub returns : goal.returns
unfolding objects_in numbers
returns c =
    ap (λ (f : ℕ → Option ℕ). λ q. object_of (f q)) c.in_ok-row.ensures
    ∙ through_put object_of c.args.page (Some c.args.object) (found c.args.self.now.grid c.args.p) c.args.object refl
