-- A table is put in at the highest place that is missing on a page's path.
use Rattle.std.proofs.Common.{◌≡◌, ◌≢◌, ℕ, ◌+◌, ◌-◌, ◌/◌, ◌%◌, ◌^◌, ◌<◌, ◌≤◌, Option, Some, None, refl, ap, sym, ◌∙◌, arith}
use Rattle.std.proofs.Math.Path.{fun_ext}
use Rattle.gup_base.specs.declared.entry.Entry.{Entry}
use Rattle.gup_plain.specs.Put.{put, put2}
use Rattle.gup_spec_tables.specs.declared.place.Place.{Place}
use Rattle.gup_tables.specs.Kept.{IsTree}
use Rattle.gup_spec_tables.specs.Tables.{table_numbers, TreeValue, table_at, on_path, above, link_to, lacks, with_table}
use Rattle.gup_tables.specs.Tree.{tree_by}
use Rattle.gup_tables.proofs.Lacks.{lacks_all, lacks_below, none_under}
use Rattle.gup_tables.proofs.Paths.{path_above, path_root}
use Rattle.gup_tables.proofs.Places.{other_level, put2_same, put2_other, found, added_here, added_other}
use Rattle.gup_tables.proofs.TreeAdded.{placed, added_entry, added_tree}

abbrev pub tree_with : (tables room : ℕ) → (ℕ → Option Place) → (ℕ → Option Entry) → TreeValue
tree_with tables room place entry = record { entry = entry; place = place; tables = tables; room = room }

module _ (place : ℕ → Option Place) (word : ℕ → ℕ → ℕ) (root : Option ℕ) (tree : IsTree place word root) (blank : (t i : ℕ) → place t ≡ None → word t i ≡ 0) (table page tables room : ℕ) (new : place table ≡ None) (small : table < table_numbers) (page_small : page < 2 ^ 35) where
  -- below a table
  module _ (over level : ℕ) (there : place over ≡ Some (on_path level page)) (upper : 1 < level) (few : level ≤ 4) (free : table_at place (on_path (level - 1) page) ≡ None) where
    is_above : above (on_path (level - 1) page) ≡ on_path level page
    is_above = path_above (level - 1) page (omega (arith, few, upper)) ∙ ap (λ k. on_path k page) (omega (arith, upper))

    abbrev linked : ℕ → ℕ → ℕ
    linked = put2 over (page / 512 ^ (level - 1) % 512) (link_to (Some table)) word

    leads : level - 1 < 4 → (place over ≡ Some (above (on_path (level - 1) page))) × (linked over (page / 512 ^ (level - 1) % 512) ≡ link_to (Some table))
    leads lower = (there ∙ ap Some (sym is_above), put2_same over (page / 512 ^ (level - 1) % 512) (link_to (Some table)) word)

    same : (t i : ℕ) → (level - 1 < 4 → t ≡ over → i ≡ page / 512 ^ (level - 1) % 512 → ⊥) → linked t i ≡ word t i
    same t i apart = put2_other over (page / 512 ^ (level - 1) % 512) (link_to (Some table)) word t i (apart (omega (arith, few, upper)))

    levels : (0 < level - 1) × (level - 1 ≤ 4)
    levels = (omega (arith, upper), omega (arith, few))

    leaf : level - 1 ≡ 1 → page / 512 ^ (level - 1) < 2 ^ 26
    leaf is = rw is (omega (arith, page_small))

    not_root : on_path (level - 1) page ≢ on_path 4 0
    not_root = other_level (on_path 4 0) (on_path (level - 1) page) (λ e. omega (arith, e, few, upper))

    pub grown_tree : IsTree (put table (Some (on_path (level - 1) page)) place) linked root
    grown_tree =
        added_tree place word linked root tree blank table (on_path (level - 1) page) new small levels (λ top. omega (arith, top, few, upper)) leaf free over leads same root
        (tree.root_there ∙ sym (added_other place (placed place word root tree) table (on_path (level - 1) page) new small free (on_path 4 0) (λ e. not_root (sym e))))

    lacked : lacks (tree_by place word tables room) page ≡ level - 1
    lacked = lacks_below place word root tree page tables room level (omega (arith, upper)) few (rw (found place over (on_path level page) (placed place word root tree) there) refl) (λ more. free)

    pub grown_value : tree_by (put table (Some (on_path (level - 1) page)) place) linked (tables + 1) room ≡ with_table table page (tree_by place word tables room)
    grown_value =
        rw lacked
        (ap (tree_with (tables + 1) room (put table (Some (on_path (level - 1) page)) place))
        (fun_ext (added_entry place word linked root tree blank table (on_path (level - 1) page) new small levels (λ top. omega (arith, top, few, upper)) leaf free over leads same)))

    pub grown_lacks : lacks (tree_by (put table (Some (on_path (level - 1) page)) place) linked (tables + 1) room) page + 1 ≡ lacks (tree_by place word tables room) page
    grown_lacks =
        let are = placed place word root tree in
        let now = lacks_below (put table (Some (on_path (level - 1) page)) place) linked root grown_tree page (tables + 1) room (level - 1) (omega (arith, upper)) (omega (arith, few))
        (rw (added_here place are table (on_path (level - 1) page) new small free) refl)
        (λ more.
        added_other place are table (on_path (level - 1) page) new small free (on_path (level - 1 - 1) page) (other_level (on_path (level - 1) page) (on_path (level - 1 - 1) page) (λ e. omega (arith, e, more)))
        ∙ none_under place word root tree page (level - 1 - 1) (omega (arith, few, more)) (ap (λ k. table_at place (on_path k page)) (omega (arith, more)) ∙ free)) in
        omega (arith, now, lacked, upper)

  -- as the root
  module _ (free : table_at place (on_path 4 page) ≡ None) where
    free_root : table_at place (on_path 4 0) ≡ None
    free_root = sym (ap (table_at place) (path_root page page_small)) ∙ free

    pub rooted_tree : IsTree (put table (Some (on_path 4 0)) place) word (Some table)
    rooted_tree =
        added_tree place word word root tree blank table (on_path 4 0) new small (omega arith, omega arith) (λ top. refl) (λ e. absurd (omega (arith, e))) free_root 0 (λ lower. absurd (omega (arith, lower))) (λ t i apart. refl) (Some table)
        (sym (added_here place (placed place word root tree) table (on_path 4 0) new small free_root))

    pub rooted_value : tree_by (put table (Some (on_path 4 0)) place) word (tables + 1) room ≡ with_table table page (tree_by place word tables room)
    rooted_value =
        rw (lacks_all place word root tree page tables room free, path_root page page_small)
        (ap (tree_with (tables + 1) room (put table (Some (on_path 4 0)) place))
        (fun_ext (added_entry place word word root tree blank table (on_path 4 0) new small (omega arith, omega arith) (λ top. refl) (λ e. absurd (omega (arith, e))) free_root 0 (λ lower. absurd (omega (arith, lower))) (λ t i apart. refl))))

    pub rooted_lacks : lacks (tree_by (put table (Some (on_path 4 0)) place) word (tables + 1) room) page + 1 ≡ lacks (tree_by place word tables room) page
    rooted_lacks =
        let are = placed place word root tree in
        let now = lacks_below (put table (Some (on_path 4 0)) place) word (Some table) rooted_tree page (tables + 1) room 4 (omega arith) (omega arith)
        (rw (path_root page page_small, added_here place are table (on_path 4 0) new small free_root) refl)
        (λ more.
        added_other place are table (on_path 4 0) new small free_root (on_path 3 page) (other_level (on_path 4 0) (on_path 3 page) (λ e. omega (arith, e)))
        ∙ none_under place word root tree page 3 (omega arith) free) in
        omega (arith, now, lacks_all place word root tree page tables room free)
