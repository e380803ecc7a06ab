-- Which core events it is that a page gets the tables that it lacks, and that its empty tables go.
use Rattle.std.specs.Prelude.{ℕ, ◌==◌, Bool, nat_le, if◌then◌else◌, List, [], ◌∷◌, ◌++◌, Option, Some, None, zero, suc}
use Rattle.gup_plain.specs.Pages.{sum_below}
use Rattle.gup_plain.specs.Put.{lowest}
use Rattle.gup_spec_tables.specs.Tables.{table_numbers, lacks, detachable}
use Rattle.gup_spec_events.specs.State.{CoreState}
use Rattle.gup_spec_events.specs.Event.{CoreEvent, add_table, take_out, reclaim, tree_in, run}

-- All that the process has taken out comes free, unless a walk of it runs.
abbrev pub reclaims : CoreState → (a p : ℕ) → List CoreEvent
reclaims s a p = if s.walks p == 0 then reclaim a p ∷ [] else []

-- the table that is taken next, and how many are free
abbrev pub lowest_table : CoreState → Option ℕ
lowest_table s = lowest 0 table_numbers s.free_table

abbrev pub free_tables : CoreState → ℕ
free_tables s = sum_below table_numbers (λ table. if s.free_table table then 1 else 0)

abbrev pub adds_one : (a p page : ℕ) → Option ℕ → List CoreEvent
adds_one a p page None = []
adds_one a p page (Some table) = add_table a p page table ∷ []

-- the n lowest free tables go, one by one, to the highest place that the page lacks then
abbrev pub adds : CoreState → (a p page n : ℕ) → List CoreEvent
adds s a p page zero = []
adds s a p page (suc n) =
    adds_one a p page (lowest_table s) ++ adds (run s (adds_one a p page (lowest_table s))) a p page n

-- are as many tables free as the page lacks?
abbrev pub has_enough : CoreState → (p page : ℕ) → Bool
has_enough s p page = nat_le (lacks (tree_in s p) page) (free_tables s)

-- it gets all that it lacks, or none
abbrev pub adds_all : CoreState → (a p page : ℕ) → List CoreEvent
adds_all s a p page = if has_enough s p page then adds s a p page (lacks (tree_in s p) page) else []

-- before that, what may come free does
abbrev pub grows : CoreState → (a p page : ℕ) → List CoreEvent
grows s a p page = reclaims s a p ++ adds_all (run s (reclaims s a p)) a p page

abbrev pub takes_one : (a p page : ℕ) → Option ℕ → List CoreEvent
takes_one a p page None = []
takes_one a p page (Some table) = take_out a p page table ∷ []

-- up to n tables of the page's path are taken out from the lowest one up, each if it is empty then, and never the root
abbrev pub takes_out : CoreState → (a p page n : ℕ) → List CoreEvent
takes_out s a p page zero = []
takes_out s a p page (suc n) =
    takes_one a p page (detachable (tree_in s p) page)
    ++ takes_out (run s (takes_one a p page (detachable (tree_in s p) page))) a p page n

-- and then what may come free does
abbrev pub retires : CoreState → (a p page : ℕ) → List CoreEvent
retires s a p page = takes_out s a p page 3 ++ reclaims (run s (takes_out s a p page 3)) a p
