-- Which core events it is that a walk reads down a page's path.
use Rattle.std.specs.Prelude.{ℕ, Bool, List, [], ◌∷◌, Option, Some, None, zero, suc}
use Rattle.gup_base.specs.declared.entry.Entry.{Entry}
use Rattle.gup_spec_tables.specs.Tables.{TreeValue}
use Rattle.gup_spec_tables.specs.Paths.{link_at, entry_at, path_to}
use Rattle.gup_spec_events.specs.State.{CoreState, WalkStep}
use Rattle.gup_spec_events.specs.Event.{CoreEvent, read_link, read_entry, tree_in, step_read}

-- what is read by way of a word, if it leads anywhere
abbrev pub led_on : (ℕ → List CoreEvent) → Option ℕ → List CoreEvent
led_on reads None = []
led_on reads (Some table) = reads table

-- From the end of this path on, n words lead to another table each, as far as they do; the next one has the entry.
abbrev pub reads_on : TreeValue → (a p : ℕ) (write long : Bool) (sequence page n : ℕ) (path : List ℕ) → List CoreEvent
reads_on v a p write long sequence page zero path =
    read_entry a p write long sequence page path (entry_at v path page) ∷ []
reads_on v a p write long sequence page (suc n) path =
    read_link a p write long sequence page path (link_at v path page)
    ∷ led_on (λ table. reads_on v a p write long sequence page n (table ∷ path)) (link_at v path page)

-- The words of the root, of the third and of the second table, and then the entry: the four readings of a page's path.
abbrev pub reads_down : CoreState → (a p : ℕ) (write long : Bool) (sequence page : ℕ) → List CoreEvent
reads_down s a p write long sequence page = reads_on (tree_in s p) a p write long sequence page 3 []

-- the entry that is read so, and where a walk stands that has read it
abbrev pub entry_down : CoreState → (p page : ℕ) → Option Entry
entry_down s p page = entry_at (tree_in s p) (path_to (tree_in s p) page) page

abbrev pub step_down : CoreState → (p : ℕ) (write long : Bool) (page : ℕ) → WalkStep
step_down s p write long page = step_read s write long page (path_to (tree_in s p) page) (entry_down s p page)
