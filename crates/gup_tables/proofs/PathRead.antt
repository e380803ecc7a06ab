-- The words on a page's path, from the root on, and that each table stands below a root.
use Rattle.std.proofs.Common.{add-zero, ◌≡◌, ℕ, zero, suc, ◌+◌, ◌-◌, ◌/◌, ◌%◌, ◌^◌, ◌<◌, ◌==◌, false, Option, Some, None, IsSome, IfSome, refl, ap, sym, ◌∙◌, arith}
use Rattle.std.proofs.lemmas.Bool.Decides.{nat_tests}
use Rattle.gup_base.specs.Packing.{pack_of}
use Rattle.gup_spec_tables.specs.declared.place.Place.{Place}
use Rattle.gup_tables.specs.Kept.{IsTree}
use Rattle.gup_spec_tables.specs.Tables.{table_at, on_path, above, link_to, word_of, read_next, read_on}
use Rattle.gup_tables.specs.Tree.{entry_at, tree_by}
use Rattle.gup_tables.proofs.Lacks.{none_lower}
use Rattle.gup_tables.proofs.Paths.{path_root, path_under}
use Rattle.gup_tables.proofs.Places.{no_table, same_place, at_some, found}
use Rattle.gup_tables.proofs.TreeAdded.{placed}

module _ (place : ℕ → Option Place) (word : ℕ → ℕ → ℕ) (root : Option ℕ) (tree : IsTree place word root) where
  -- where nothing stands at the root, nothing stands anywhere
  no_root : (more table : ℕ) (p : Place) → place table ≡ Some p → p.level + more ≡ 4 → table_at place (on_path 4 0) ≡ None → ⊥
  no_root zero table p there level none =
      let top : p.level ≡ 4 = rw (add-zero p.level) at level in
      let is : p ≡ on_path 4 0 = same_place (on_path 4 0) p top (tree.root_span table p there top) in
      no_table (table_at place (on_path 4 0)) (rw (found place table (on_path 4 0) (placed place word root tree) (there ∙ ap Some is)) refl) none
  no_root (suc more) table p there level none =
      go (table_at place (above p)) refl (tree.linked table p there (omega (arith, level)))
      (λ over is. no_root more over (above p) is (omega (arith, level)) none)
    where
      go : (o : Option ℕ) → table_at place (above p) ≡ o → IsSome (table_at place (above p)) → ((over : ℕ) → place over ≡ Some (above p) → ⊥) → ⊥
      go None is some further = no_table (table_at place (above p)) some is
      go (Some over) is some further = further over ((at_some place (above p) over is).1)

  pub rootless : table_at place (on_path 4 0) ≡ None → (table : ℕ) → place table ≡ None
  rootless none table = go (place table) refl
    where
      go : (o : Option Place) → place table ≡ o → place table ≡ None
      go None is = is
      go (Some p) is = let level = tree.levels table p is in absurd (no_root (4 - p.level) table p is (omega (arith, level.1)) none)

  module _ (tables room page : ℕ) where
    -- the word on the path leads to the next table
    next_word : (table under : ℕ) → place table ≡ Some (on_path (suc under) page) → 0 < under → under < 4 → word_of (tree_by place word tables room) table (page / 512 ^ under % 512) ≡ link_to (table_at place (on_path under page))
    next_word table under there upper few =
        let test : (suc under == 1) ≡ false = grind (arith, nat_tests) in
        rw (there, test) (ap (λ p. link_to (table_at place p)) (path_under under page few))

    last_word : (table : ℕ) → place table ≡ Some (on_path 1 page) → word_of (tree_by place word tables room) table (page % 512) ≡ pack_of (entry_at word (table_at place (on_path 1 page)) page)
    last_word table there = rw there (ap (λ g. pack_of (entry_at word (table_at place (on_path 1 g)) g)) (omega arith))

    led : (table : ℕ) → link_to (Some table) / 4096 ≡ table
    led table = omega arith

    leads : (table : ℕ) → (link_to (Some table) == 0) ≡ false
    leads table = grind (arith, nat_tests)

    reads : (level table : ℕ) → level < 4 → place table ≡ Some (on_path (suc level) page) → read_on (word_of (tree_by place word tables room)) (suc level) table page ≡ pack_of (entry_at word (table_at place (on_path 1 page)) page)
    reads zero table few there = last_word table there
    reads (suc level) table few there = go (table_at place (on_path (suc level) page)) refl (λ next. reads level next (omega (arith, few)))
      where
        go : (o : Option ℕ) → table_at place (on_path (suc level) page) ≡ o → ((next : ℕ) → place next ≡ Some (on_path (suc level) page) → read_on (word_of (tree_by place word tables room)) (suc level) next page ≡ pack_of (entry_at word (table_at place (on_path 1 page)) page)) → read_on (word_of (tree_by place word tables room)) (suc (suc level)) table page ≡ pack_of (entry_at word (table_at place (on_path 1 page)) page)
        go None is further =
            let gone = none_lower place word root tree page 1 level (omega (arith, few)) (ap (λ k. table_at place (on_path k page)) (omega arith) ∙ is) in
            ap (read_next (λ next. read_on (word_of (tree_by place word tables room)) (suc level) next page)) (next_word table (suc level) there (omega arith) few ∙ ap link_to is)
            ∙ sym (ap (λ o. pack_of (entry_at word o page)) gone)
        go (Some next) is further =
            ap (read_next (λ next. read_on (word_of (tree_by place word tables room)) (suc level) next page)) (next_word table (suc level) there (omega arith) few ∙ ap link_to is)
            ∙ rw (leads next) (ap (λ n. read_on (word_of (tree_by place word tables room)) (suc level) n page) (led next) ∙ further next ((at_some place (on_path (suc level) page) next is).1))

    pub path_read : page < 2 ^ 35 → (o : Option ℕ) → table_at place (on_path 4 0) ≡ o → IfSome (table_at place (on_path 4 0)) (λ r. read_on (word_of (tree_by place word tables room)) 4 r page ≡ pack_of (entry_at word (table_at place (on_path 1 page)) page))
    path_read small None is = rw is tt
    path_read small (Some r) is = rw is (reads 3 r (omega arith) ((at_some place (on_path 4 0) r is).1 ∙ ap Some (sym (path_root page small))))
