-- A page that lacks all of its four tables gets them one after another, and the lowest of them can be taken out again.
use Rattle.std.proofs.Common.{◌≡◌, ◌≢◌, ℕ, suc, ◌+◌, ◌*◌, ◌<◌, ◌≤◌, ◌==◌, add-zero, not, Bool, true, false, List, ◌∷◌, Option, Some, None, IsSome, refl, ap, ◌∙◌, arith}
use Rattle.gup_base.specs.Packing.{pack_of}
use Rattle.gup_plain.specs.Event.{page_numbers}
use Rattle.gup_bits.proofs.Lowest.{lowest_none}
use Rattle.gup_maps.proofs.Ranges.{any_below_none}
use Rattle.gup_tables.proofs.Places.{put_same, put_other, found}
use Rattle.gup_spec_tables.specs.declared.place.Place.{Place}
use Rattle.gup_spec_tables.specs.Tables.{table_numbers, table_words, TreeValue, table_at, is_at, on_path, word_of, word_where, is_empty, lacks, detachable}
use Rattle.gup_spec_events.specs.State.{CoreState}
use Rattle.gup_spec_events.specs.Event.{CoreEvent, happens, tree_in, has_tables, MayShape, add_table}
use Rattle.gup_spec_events.specs.Invariant.{AllCan}
use Rattle.gup_law_tables.specs.Standing.{IsTree, AreOwned, TablesStand}
use Rattle.gup_law_tables.proofs.Trees.{placed}
use Rattle.gup_law_tables.proofs.Owners.{here2, away2}
use Rattle.gup_law_tables.proofs.TableEvents.{stay}
use Rattle.gup_law_tables.proofs.Growth.{one_fewer}

-- the state with these tables
abbrev pub with_tables : CoreState → (place : ℕ → ℕ → Option Place) → (free : ℕ → Bool) → CoreState
with_tables s place free = record s { place = place; free_table = free }

-- a process without tables lacks all four
pub bare_lacks : (s : CoreState) (p page : ℕ) → ((table : ℕ) → s.place p table ≡ None) → lacks (tree_in s p) page ≡ 4
bare_lacks s p page bare = rw (none 1, none 2, none 3, none 4) refl
  where
    none : (level : ℕ) → table_at (s.place p) (on_path level page) ≡ None
    none level = lowest_none 0 table_numbers (λ table. is_at (on_path level page) (s.place p table)) (λ table more less. rw (bare table) refl)

-- what is lacking hangs on the tables of the process alone
pub same_lacks : (s t : CoreState) (p page : ℕ) → t.place p ≡ s.place p → lacks (tree_in t p) page ≡ lacks (tree_in s p) page
same_lacks s t p page same = rw same refl

-- a page that lacks none may get an entry
pub tables_there : (s : CoreState) (p page : ℕ) → s.needs_tables ≡ true → lacks (tree_in s p) page ≡ 0 → has_tables s p page ≡ true
tables_there s p page needs full = rw (needs, full) refl

-- what is known where the page of a process has got this table, and still lacks n
record HasOne (s : CoreState) (place : ℕ → ℕ → Option Place) (free : ℕ → Bool) (p page table n : ℕ) : Type 0 where
  standing : AreOwned free place s.retired
  lacking : lacks (tree_in (with_tables s place free) p) page ≡ n
  there : place p table ≡ Some (on_path (suc n) page)
  kept : (other : ℕ) → other ≢ table → place p other ≡ s.place p other
  others : (q : ℕ) → q ≢ p → place q ≡ s.place q
  others_free : (other : ℕ) → other ≢ table → free other ≡ s.free_table other

-- and where it has got all four, with numbers from this one on: the three below the root are its path
pub record HasFour (s : CoreState) (place : ℕ → ℕ → Option Place) (free : ℕ → Bool) (p page first : ℕ) : Type 0 where
  pub standing : AreOwned free place s.retired
  pub full : lacks (tree_in (with_tables s place free) p) page ≡ 0
  pub third : place p (first + 1) ≡ Some (on_path 3 page)
  pub second : place p (first + 2) ≡ Some (on_path 2 page)
  pub lowest : place p (first + 3) ≡ Some (on_path 1 page)
  pub others : (q : ℕ) → q ≢ p → place q ≡ s.place q
  pub others_free : (other : ℕ) → first + 4 ≤ other → free other ≡ s.free_table other

-- The events behind can happen whatever tables there are then, if that is known of them: so those need not be written out.
module _ (a p page : ℕ) (within : page < page_numbers) where
  one_can : (s : CoreState) (table n : ℕ) (es : List CoreEvent) → TablesStand s → MayShape s a p → IsSome (s.right p page)
      → lacks (tree_in s p) page ≡ suc n → s.free_table table ≡ true
      → ((place : ℕ → ℕ → Option Place) (free : ℕ → Bool) → HasOne s place free p page table n → AllCan (with_tables s place free) es)
      → AllCan s (add_table a p page table ∷ es)
  one_can s table n es stand may mapped lacking free next =
      let some : 0 < lacks (tree_in s p) page = omega (arith, lacking) in
      let t : CoreState = happens s (add_table a p page table) in
      let at : Option Place = Some (on_path (lacks (tree_in s p) page) page) in
      let fewer = one_fewer a p page within s stand some table (stand.free_small table free) free in
      let own : t.place p table ≡ at = rw (here2 p table at s.place) (put_same table at (s.place p)) in (
        (may, mapped, within, free, some),
        next t.place t.free_table
            (record {
              standing = stay s (add_table a p page table) stand (may, mapped, within, free, some);
              lacking = omega (arith, fewer, lacking);
              there = own ∙ ap (λ k. Some (on_path k page)) lacking;
              kept = λ other away. rw (here2 p table at s.place) (put_other table at (s.place p) other away);
              others = λ q away. away2 p table at s.place q away;
              others_free = λ other away. put_other table false s.free_table other away;
            }),
      )

  pub four_can : (s : CoreState) (first : ℕ) (es : List CoreEvent) → TablesStand s → MayShape s a p → IsSome (s.right p page)
      → lacks (tree_in s p) page ≡ 4 → ((k : ℕ) → k < 4 → s.free_table (first + k) ≡ true)
      → ((place : ℕ → ℕ → Option Place) (free : ℕ → Bool) → HasFour s place free p page first → AllCan (with_tables s place free) es)
      → AllCan s (add_table a p page first ∷ add_table a p page (first + 1) ∷ add_table a p page (first + 2) ∷ add_table a p page (first + 3) ∷ es)
  four_can s first es stand may mapped lacking free next =
      one_can s first 3 (add_table a p page (first + 1) ∷ add_table a p page (first + 2) ∷ add_table a p page (first + 3) ∷ es) stand may mapped lacking (rw add-zero at (free 0 (omega arith)))
      (λ place1 free1 h1.
      one_can (with_tables s place1 free1) (first + 1) 2 (add_table a p page (first + 2) ∷ add_table a p page (first + 3) ∷ es) h1.standing may mapped h1.lacking
      (h1.others_free (first + 1) (omega arith) ∙ free 1 (omega arith))
      (λ place2 free2 h2.
      one_can (with_tables s place2 free2) (first + 2) 1 (add_table a p page (first + 3) ∷ es) h2.standing may mapped h2.lacking
      (h2.others_free (first + 2) (omega arith) ∙ h1.others_free (first + 2) (omega arith) ∙ free 2 (omega arith))
      (λ place3 free3 h3.
      one_can (with_tables s place3 free3) (first + 3) 0 es h3.standing may mapped h3.lacking
      (h3.others_free (first + 3) (omega arith) ∙ h2.others_free (first + 3) (omega arith) ∙ h1.others_free (first + 3) (omega arith) ∙ free 3 (omega arith))
      (λ place4 free4 h4.
      next place4 free4
      (record {
        standing = h4.standing;
        full = h4.lacking;
        third = h4.kept (first + 1) (omega arith) ∙ h3.kept (first + 1) (omega arith) ∙ h2.there;
        second = h4.kept (first + 2) (omega arith) ∙ h3.there;
        lowest = h4.there;
        others = λ q away. h4.others q away ∙ h3.others q away ∙ h2.others q away ∙ h1.others q away;
        others_free = λ other above. h4.others_free other (omega arith) ∙ h3.others_free other (omega arith) ∙ h2.others_free other (omega arith) ∙ h1.others_free other (omega arith);
      })))))

-- where no page has an entry, the lowest table of a full path is empty, and can be taken out
pub lowest_detachable : (v : TreeValue) (page table : ℕ) → IsTree v.place → lacks v page ≡ 0 → v.place table ≡ Some (on_path 1 page) → ((other : ℕ) → v.entry other ≡ None) → detachable v page ≡ Some table
lowest_detachable v page table tree full there bare =
    let at : table_at v.place (on_path 1 page) ≡ Some table = found v.place table (on_path 1 page) (placed v.place tree) there in
    let zero : (i : ℕ) → word_of v table i ≡ 0 = λ i. ap (λ o. word_where v o i) there ∙ ap pack_of (bare (512 * (on_path 1 page).span + i)) in
    let empty : is_empty v table ≡ true = ap not (any_below_none table_words (λ i. not (word_of v table i == 0)) (λ i less. rw (zero i) refl)) in
    rw (full, at, empty) refl
