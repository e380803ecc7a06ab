-- The rows of a tree that loses a table.
use Rattle.std.proofs.Common.{◌≡◌, ◌≢◌, ℕ, zero, suc, ◌+◌, ◌-◌, ◌/◌, ◌%◌, ◌^◌, ◌<◌, ◌≤◌, ◌==◌, nat_lt, Bool, true, false, not, cond, Option, Some, None, length, refl, ap, sym, ◌∙◌, ⊎_elim, arith}
use Rattle.std.proofs.Math.Path.{fun_ext}
use Rattle.std.proofs.lemmas.Bool.{cases_eq, cases_lt}
use Rattle.std.proofs.lemmas.Bool.Decides.{nat_tests}
use Rattle.gup_plain.specs.Denial.{any_below}
use Rattle.gup_plain.specs.Put.{put, put2}
use Rattle.gup_maps.proofs.Ranges.{any_below_some}
use Rattle.gup_tables.specs.declared.tree.Step.{Step}
use Rattle.gup_tables.specs.Kept.{IsTree, IsLowest}
use Rattle.gup_spec_tables.specs.Tables.{table_words, table_at, on_path, above, lacks, word_of, is_empty, detachable, without_table}
use Rattle.gup_tables.specs.Rows.{RowLists, place_in, word_in}
use Rattle.gup_tables.specs.Tree.{tree_by, tree_of}
use Rattle.gup_tables.proofs.Lacks.{lacks_all, lowest_lacks, none_lower}
use Rattle.gup_tables.proofs.Paths.{path_above}
use Rattle.gup_tables.proofs.Places.{found, put2_same, put2_other}
use Rattle.gup_tables.proofs.RowLists.{no_word}
use Rattle.gup_tables.proofs.TreeAdded.{placed}
use Rattle.gup_tables.proofs.TreeDetached.{detached_entry, detached_tree}
use Rattle.gup_tables.proofs.TreeGrown.{tree_with}

any_below_same : (n : ℕ) (f g : ℕ → Bool) → ((k : ℕ) → k < n → f k ≡ g k) → any_below n f ≡ any_below n g
any_below_same zero f g same = refl
any_below_same (suc n) f g same = rw (any_below_same n f g (λ k less. same k (omega (arith, less))), same n (omega arith)) refl

within_words : (i : ℕ) → i < table_words → i < 512
unfolding table_words
within_words i less = less

words_within : (i : ℕ) → i < 512 → i < table_words
unfolding table_words
words_within i less = less

-- what is to be shown of the rows after
pub record HasShrunk (rows new : RowLists) (root : Option ℕ) (table : ℕ) : Type 0 where
  pub tree : IsTree (place_in new) (word_in new) root
  pub value : tree_of new ≡ without_table table (tree_of rows)

module _ (rows : RowLists) (root : Option ℕ) (tree : IsTree (place_in rows) (word_in rows) root) (page : ℕ) where
  -- there is no table on the path
  pub not_detachable : table_at (place_in rows) (on_path 4 page) ≡ None → detachable (tree_of rows) page ≡ None
  not_detachable none = rw (lacks_all (place_in rows) (word_in rows) root tree page (length rows.numbers) rows.room none) refl

  module _ (last : Step) (low : IsLowest (tree_of rows) page 1 last) where
    lacked : lacks (tree_of rows) page ≡ last.level - 1
    lacked = lowest_lacks (place_in rows) (word_in rows) root tree page (length rows.numbers) rows.room last.table last.level low

    -- its words are those in its row
    empty_is : is_empty (tree_of rows) last.table ≡ not (any_below table_words (λ i. not (word_in rows last.table i == 0)))
    empty_is =
        ap not
        (any_below_same table_words (λ i. not (word_of (tree_of rows) last.table i == 0)) (λ i. not (word_in rows last.table i == 0))
        (λ i less. rw low.there (ap (λ w. not (w == 0)) (sym (tree.words last.table i (on_path last.level page) low.there (within_words i less))))))

    pub root_stays : last.level ≡ 4 → detachable (tree_of rows) page ≡ None
    root_stays is = let three : lacks (tree_of rows) page ≡ 3 = omega (arith, lacked, is) in rw three refl

    table_found : table_at (place_in rows) (on_path (lacks (tree_of rows) page + 1) page) ≡ Some last.table
    table_found =
        ap (λ k. table_at (place_in rows) (on_path k page)) (omega (arith, lacked, low.within.0))
        ∙ found (place_in rows) last.table (on_path last.level page) (placed (place_in rows) (word_in rows) root tree) low.there

    pub detachable_by : (empty : Bool) → last.level ≢ 4 → empty ≡ not (any_below table_words (λ i. not (word_in rows last.table i == 0))) → detachable (tree_of rows) page ≡ cond empty (Some last.table) None
    detachable_by empty apart is =
        let lower : nat_lt (lacks (tree_of rows) page) 3 ≡ true = grind (arith, nat_tests, lacked, apart, low.within.1, low.within.0) in
        rw (lower, table_found, empty_is, ← is) refl

    module _ (over : Step) (over_low : IsLowest (tree_of rows) page (last.level + 1) over) (apart : last.level ≢ 4) (empty : true ≡ not (any_below table_words (λ i. not (word_in rows last.table i == 0)))) where
      -- the table above is the next on the path
      is_next : over.level ≡ last.level + 1
      is_next =
          ⊎_elim
          (λ (same : over.level ≡ last.level + 1). same)
          (λ (higher : over.level ≢ last.level + 1).
          let none = over_low.last (omega (arith, higher, over_low.within.0)) in
          let gone = none_lower (place_in rows) (word_in rows) root tree page last.level (over.level - 1 - last.level) (omega (arith, over_low.within.1, higher, over_low.within.0))
          (ap (λ k. table_at (place_in rows) (on_path k page)) (omega (arith, higher, over_low.within.0)) ∙ none) in
          let there = found (place_in rows) last.table (on_path last.level page) (placed (place_in rows) (word_in rows) root tree) low.there in
          absurd (cc (gone, there)))
          (cases_eq over.level (last.level + 1))

      leads : place_in rows over.table ≡ Some (above (on_path last.level page))
      leads = over_low.there ∙ ap Some (ap (λ k. on_path k page) is_next ∙ sym (path_above last.level page (omega (arith, apart, low.within.1))))

      pub all_zero : (i : ℕ) → i < 512 → word_in rows last.table i ≡ 0
      all_zero i less = go (word_in rows last.table i == 0) refl
        where
          go : (b : Bool) → (word_in rows last.table i == 0) ≡ b → word_in rows last.table i ≡ 0
          go true is = grind (arith, nat_tests, is)
          go false is =
              let some : any_below table_words (λ k. not (word_in rows last.table k == 0)) ≡ true = any_below_some table_words (λ k. not (word_in rows last.table k == 0)) i (words_within i less) (rw is refl) in
              let contrary : true ≡ false = empty ∙ ap not some in
              absurd cc

      pub still_zero : (i : ℕ) → put2 over.table (page / 512 ^ last.level % 512) 0 (word_in rows) last.table i ≡ 0
      still_zero i =
          ⊎_elim
          (λ (same : last.table ≡ over.table).
          ⊎_elim
          (λ (at : i ≡ page / 512 ^ last.level % 512). rw (same, at) (put2_same over.table (page / 512 ^ last.level % 512) 0 (word_in rows)))
          (λ (away : i ≢ page / 512 ^ last.level % 512). put2_other over.table (page / 512 ^ last.level % 512) 0 (word_in rows) last.table i (λ t a. away a) ∙ zero_all i)
          (cases_eq i (page / 512 ^ last.level % 512)))
          (λ (apart_from : last.table ≢ over.table). put2_other over.table (page / 512 ^ last.level % 512) 0 (word_in rows) last.table i (λ t a. apart_from t) ∙ zero_all i)
          (cases_eq last.table over.table)
        where
          zero_all : (k : ℕ) → word_in rows last.table k ≡ 0
          zero_all k = ⊎_elim (λ (less : k < 512). all_zero k less) (λ (past : 512 ≤ k). no_word rows last.table k past) (cases_lt k 512)

      module _ (new : RowLists) (places : place_in new ≡ put last.table None (place_in rows)) (words : word_in new ≡ put2 over.table (page / 512 ^ last.level % 512) 0 (word_in rows)) (len : length new.numbers + 1 ≡ length rows.numbers) (room : new.room ≡ rows.room) where
        pub shrunk : HasShrunk rows new root last.table
        shrunk =
            let lower : last.level < 4 = omega (arith, apart, low.within.1) in
            let fewer : length new.numbers ≡ length rows.numbers - 1 = omega (arith, len) in
            let value = ap (λ n. tree_by (place_in new) (word_in new) n new.room) fewer ∙ ap (λ r. tree_by (place_in new) (word_in new) (length rows.numbers - 1) r) room in
            let by_places = ap (λ f. tree_by f (word_in new) (length rows.numbers - 1) rows.room) places in
            let by_words = ap (λ w. tree_by (put last.table None (place_in rows)) w (length rows.numbers - 1) rows.room) words in
            record {
              tree = rw (places, words) (detached_tree (place_in rows) (word_in rows) root tree last.table over.table (on_path last.level page) low.there lower leads all_zero);
              value = value ∙ by_places ∙ by_words
                  ∙ ap (tree_with (length rows.numbers - 1) rows.room (put last.table None (place_in rows)))
                  (fun_ext (detached_entry (place_in rows) (word_in rows) root tree last.table over.table (on_path last.level page) low.there lower leads all_zero));
            }
