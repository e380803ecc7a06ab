use Rattle.std.proofs.Common.{◌≡◌, ℕ, Bool, true, false, MatchBool, List, None}
use Rattle.gup_maps.specs.Table.{at, pages_of, IsThere, IsOrdered, IsPlace}
use Rattle.gup_maps.proofs.Values.{nowhere}
use Rattle.gup_maps.proofs.table.has_row.Goals as goal

by_place : {V : Type 0} (rows : List (ℕ × V)) (page place : ℕ) (is : Bool) → IsOrdered (pages_of rows) → IsPlace (pages_of rows) page place → MatchBool is (IsThere (pages_of rows) page place) (IsThere (pages_of rows) page place → ⊥) → MatchBool is (IsThere (pages_of rows) page place) (at rows page ≡ None)
by_place rows page place true ordered stands there = there
by_place rows page place false ordered stands missing = nowhere rows ordered page place stands missing

pub returns : goal.returns
returns g c =
    by_place c.args.rows.now c.args.page c.args.place c.stands_at.result c.requires.ordered c.requires.place c.stands_at.ensures
