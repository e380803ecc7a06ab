-- The rows of a tree that gets a table more.
use Rattle.std.proofs.Common.{◌≡◌, ℕ, ◌+◌, ◌-◌, ◌/◌, ◌%◌, ◌^◌, ◌<◌, Option, Some, None, length, ap, ◌∙◌, arith}
use Rattle.gup_plain.specs.Put.{put, put2}
use Rattle.gup_tables.specs.Kept.{IsTree, IsLowest}
use Rattle.gup_spec_tables.specs.Tables.{table_numbers, table_at, on_path, link_to, lacks, with_table}
use Rattle.gup_tables.specs.Rows.{RowLists, place_in, word_in}
use Rattle.gup_tables.specs.Tree.{tree_by, tree_of}
use Rattle.gup_tables.proofs.Lacks.{lowest_lacks}
use Rattle.gup_tables.proofs.RowLists.{blank}
use Rattle.gup_tables.proofs.TreeGrown.{grown_tree, grown_value, grown_lacks, rooted_tree, rooted_value, rooted_lacks}

-- what is to be shown of the rows after
pub record HasGrown (rows new : RowLists) (root : Option ℕ) (table page : ℕ) : Type 0 where
  pub tree : IsTree (place_in new) (word_in new) root
  pub value : tree_of new ≡ with_table table page (tree_of rows)
  pub lacks_less : lacks (tree_of new) page + 1 ≡ lacks (tree_of rows) page

module _ (rows new : RowLists) (root : Option ℕ) (tree : IsTree (place_in rows) (word_in rows) root) (table page : ℕ) (other : place_in rows table ≡ None) (small : table < 8192) (page_small : page < 2 ^ 35) (len : length new.numbers ≡ length rows.numbers + 1) (room : new.room ≡ rows.room) where
  numbered : table < table_numbers
  unfolding table_numbers
  numbered = small

  -- below a table
  module _ (over level : ℕ) (low : IsLowest (tree_of rows) page 1 (record { table = over; level = level })) (missing : 0 < lacks (tree_of rows) page) (places : place_in new ≡ put table (Some (on_path (level - 1) page)) (place_in rows)) (words : word_in new ≡ put2 over (page / 512 ^ (level - 1) % 512) (link_to (Some table)) (word_in rows)) where
    upper : 1 < level
    upper = omega (arith, missing, lowest_lacks (place_in rows) (word_in rows) root tree page (length rows.numbers) rows.room over level low)

    pub grown_rows : HasGrown rows new root table page
    grown_rows =
        let value = ap (λ n. tree_by (place_in new) (word_in new) n new.room) len ∙ ap (λ r. tree_by (place_in new) (word_in new) (length rows.numbers + 1) r) room in
        let p = grown_tree (place_in rows) (word_in rows) root tree (blank rows) table page (length rows.numbers) rows.room other numbered page_small over level low.there upper low.within.1 (low.last upper) in
        let v = grown_value (place_in rows) (word_in rows) root tree (blank rows) table page (length rows.numbers) rows.room other numbered page_small over level low.there upper low.within.1 (low.last upper) in
        let l = grown_lacks (place_in rows) (word_in rows) root tree (blank rows) table page (length rows.numbers) rows.room other numbered page_small over level low.there upper low.within.1 (low.last upper) in
        let by_places = ap (λ f. tree_by f (word_in new) (length rows.numbers + 1) rows.room) places in
        let by_words = ap (λ w. tree_by (put table (Some (on_path (level - 1) page)) (place_in rows)) w (length rows.numbers + 1) rows.room) words in
        let is = value ∙ by_places ∙ by_words in
        record {
          tree = rw (places, words) p;
          value = is ∙ v;
          lacks_less = ap (λ t. lacks t page + 1) is ∙ l;
        }

  -- as the root
  module _ (none : table_at (place_in rows) (on_path 4 page) ≡ None) (places : place_in new ≡ put table (Some (on_path 4 0)) (place_in rows)) (words : word_in new ≡ word_in rows) where
    pub rooted_rows : HasGrown rows new (Some table) table page
    rooted_rows =
        let value = ap (λ n. tree_by (place_in new) (word_in new) n new.room) len ∙ ap (λ r. tree_by (place_in new) (word_in new) (length rows.numbers + 1) r) room in
        let by_places = ap (λ f. tree_by f (word_in new) (length rows.numbers + 1) rows.room) places in
        let by_words = ap (λ w. tree_by (put table (Some (on_path 4 0)) (place_in rows)) w (length rows.numbers + 1) rows.room) words in
        let is = value ∙ by_places ∙ by_words in
        record {
          tree = rw (places, words) (rooted_tree (place_in rows) (word_in rows) root tree (blank rows) table page (length rows.numbers) rows.room other numbered page_small none);
          value = is ∙ rooted_value (place_in rows) (word_in rows) root tree (blank rows) table page (length rows.numbers) rows.room other numbered page_small none;
          lacks_less = ap (λ t. lacks t page + 1) is ∙ rooted_lacks (place_in rows) (word_in rows) root tree (blank rows) table page (length rows.numbers) rows.room other numbered page_small none;
        }
