use Rattle.std.proofs.Common.{◌≡◌, ◌++◌, slice_get}
use Rattle.std.specs.VecDeque.Iter.{deque_iter_rest}
use Rattle.gup_space.specs.Space.{space_of}
use Rattle.gup_image.specs.Gathered.{gathered, at_place}
use Rattle.gup_image.specs.Image.{retired_fact}
use Rattle.gup_image.proofs.Waiting.{IsOver}
use Rattle.gup_image.proofs.tables.push_retired.Given as goal

-- the facts of so many that wait, and the others are to come
abbrev pub invariant-loop-table : goal.invariant-loop-table
invariant-loop-table l =
    (l.facts.items ≡ l.fn.facts.items ++ gathered (λ k. at_place (retired_fact l.proc) k (slice_get (space_of l.space).retired k)) l.place)
    × IsOver (space_of l.space).retired (deque_iter_rest l.table-iterator) l.place
