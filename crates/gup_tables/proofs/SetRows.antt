-- The rows of a tree in which a page's entry is written.
use Rattle.std.proofs.Common.{◌≡◌, ℕ, ◌%◌, ◌<◌, Option, Some, length, ap, ◌∙◌, arith}
use Rattle.std.specs.Option.{ForSome}
use Rattle.std.proofs.Math.Path.{fun_ext}
use Rattle.gup_base.specs.Packing.{pack_of}
use Rattle.gup_base.specs.declared.entry.Entry.{Entry}
use Rattle.gup_plain.specs.Put.{put2}
use Rattle.gup_tables.specs.declared.tree.Step.{Step}
use Rattle.gup_tables.specs.Kept.{IsTree, IsLowest}
use Rattle.gup_tables.specs.Rows.{RowLists, place_in, word_in}
use Rattle.gup_spec_tables.specs.Tables.{on_path, lacks, with_entry}
use Rattle.gup_tables.specs.Tree.{tree_by, tree_of}
use Rattle.gup_tables.proofs.Lacks.{lowest_lacks}
use Rattle.gup_tables.proofs.TreeGrown.{tree_with}
use Rattle.gup_tables.proofs.TreeSet.{unpack-pack, set_entry, set_tree}

-- what is to be shown of the rows after
pub record HasSet (rows new : RowLists) (root : Option ℕ) (page : ℕ) (entry : Option Entry) : Type 0 where
  pub tree : IsTree (place_in new) (word_in new) root
  pub value : tree_of new ≡ with_entry page entry (tree_of rows)

module _ (rows new : RowLists) (root : Option ℕ) (tree : IsTree (place_in rows) (word_in rows) root) (page : ℕ) (last : Step) (low : IsLowest (tree_of rows) page 1 last) (complete : lacks (tree_of rows) page ≡ 0) (entry : Option Entry) (small : ForSome entry (λ e. e.frame < 16384)) (places : place_in new ≡ place_in rows) (words : word_in new ≡ put2 last.table (page % 512) (pack_of entry) (word_in rows)) (len : length new.numbers ≡ length rows.numbers) (room : new.room ≡ rows.room) where
  leaf : place_in rows last.table ≡ Some (on_path 1 page)
  leaf =
      let lacked = lowest_lacks (place_in rows) (word_in rows) root tree page (length rows.numbers) rows.room last.table last.level low in
      low.there ∙ ap (λ k. Some (on_path k page)) (omega (arith, lacked, complete, low.within.0))

  pub set_rows : HasSet rows new root page entry
  set_rows =
      let value = ap (λ n. tree_by (place_in new) (word_in new) n new.room) len ∙ ap (λ r. tree_by (place_in new) (word_in new) (length rows.numbers) r) room in
      let by_places = ap (λ f. tree_by f (word_in new) (length rows.numbers) rows.room) places in
      let by_words = ap (λ w. tree_by (place_in rows) w (length rows.numbers) rows.room) words in
      record {
        tree = rw (places, words) (set_tree (place_in rows) (word_in rows) root tree last.table page leaf entry (unpack-pack entry small));
        value = value ∙ by_places ∙ by_words
            ∙ ap (tree_with (length rows.numbers) rows.room (place_in rows))
            (fun_ext (set_entry (place_in rows) (word_in rows) root tree last.table page leaf entry (unpack-pack entry small)));
      }
