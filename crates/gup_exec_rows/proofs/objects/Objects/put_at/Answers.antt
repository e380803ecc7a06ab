use Rattle.std.proofs.Common.{ℕ, Option, ap, ◌∙◌}
use Rattle.std.specs.BTreeMap.{get}
use Rattle.std.specs.Ordering.{nat_cmp}
use Rattle.gup_exec_rows.specs.Grid.{found}
use Rattle.gup_exec_rows.specs.Objects.{objects_in, numbers, object_of}
use Rattle.gup_exec_rows.proofs.RowLemmas.{through_put2}
use Rattle.gup_exec_rows.proofs.objects.Objects.put_at.Goals as goal

pub returns : goal.returns
unfolding objects_in numbers
returns c =
    let read : (ℕ → Option ℕ) → ℕ → ℕ = λ f page. object_of (f page) in
    ap (λ (f : ℕ → ℕ → Option ℕ). λ p. read (f p)) c.put.ensures
    ∙ through_put2 read c.args.p (get nat_cmp c.args.row) (found c.args.self.now.grid) c.args.page c.args.object c.requires
