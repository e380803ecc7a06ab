-- Where a page has got all of its four tables, a walk reads down its path from one to the next.
use Rattle.std.proofs.Common.{◌≡◌, ℕ, suc, ◌+◌, ◌&&◌, Bool, true, if◌then◌else◌, [], ◌∷◌, Option, Some, None, ap, sym, ◌∙◌, arith}
use Rattle.std.proofs.lemmas.Bool.Decides.{nat_tests}
use Rattle.gup_base.specs.declared.entry.Entry.{Entry}
use Rattle.gup_tables.proofs.Places.{found, is_at_own}
use Rattle.gup_spec_tables.specs.declared.place.Place.{Place}
use Rattle.gup_spec_tables.specs.Tables.{TreeValue, table_at, is_at, on_path}
use Rattle.gup_spec_tables.specs.Paths.{is_this, link_at, entry_at, leads_still}
use Rattle.gup_spec_events.specs.State.{CoreState}
use Rattle.gup_law_tables.specs.Standing.{IsTree}
use Rattle.gup_law_tables.proofs.Trees.{placed}
use Rattle.gup_law_tables.proofs.FourTables.{HasFour}

-- a tree where the page that is looked at has this entry
abbrev pub tree_of : (ℕ → Option Place) → Option Entry → TreeValue
tree_of place entry = record { entry = λ _. entry; place = place; tables = 0; room = 0 }

-- down the path a word leads to each table, and the entry is the page's; the word above leads to the last table
pub record ReadsDown (place : ℕ → Option Place) (page first : ℕ) : Type 0 where
  pub root : Some (first + 1) ≡ link_at (tree_of place None) [] page
  pub third : Some (first + 2) ≡ link_at (tree_of place None) ((first + 1) ∷ []) page
  pub second : Some (first + 3) ≡ link_at (tree_of place None) ((first + 2) ∷ (first + 1) ∷ []) page
  pub entry : (e : Option Entry) → e ≡ entry_at (tree_of place e) ((first + 3) ∷ (first + 2) ∷ (first + 1) ∷ []) page
  pub above : true ≡ leads_still (tree_of place None) ((first + 3) ∷ (first + 2) ∷ (first + 1) ∷ []) page

module _ (place : ℕ → Option Place) (tree : IsTree place) (page : ℕ) where
  stands : (level table : ℕ) → place table ≡ Some (on_path level page) → is_at (on_path level page) (place table) ≡ true
  stands level table at = ap (is_at (on_path level page)) at ∙ is_at_own (on_path level page)

  -- the word of a table that stands there leads to the one below
  leads : (level table upper : ℕ) → place upper ≡ Some (on_path (suc level) page) → place table ≡ Some (on_path level page) → Some table ≡ (if is_at (on_path (suc level) page) (place upper) && true then table_at place (on_path level page) else None)
  leads level table upper over at =
      sym (ap (λ (b : Bool). if b && true then table_at place (on_path level page) else None) (stands (suc level) upper over) ∙ found place table (on_path level page) (placed place tree) at)

is_itself : (table : ℕ) → true ≡ is_this table (Some table)
is_itself table = grind (arith, nat_tests)

pub reads : (s : CoreState) (place : ℕ → ℕ → Option Place) (free : ℕ → Bool) (p page first : ℕ) → HasFour s place free p page first → ReadsDown (place p) page first
reads s place free p page first has =
    let tree : IsTree (place p) = has.standing.trees p in
    let second = leads (place p) tree page 1 (first + 3) (first + 2) has.second has.lowest in
    record {
      root = sym (found (place p) (first + 1) (on_path 3 page) (placed (place p) tree) has.third);
      third = leads (place p) tree page 2 (first + 2) (first + 1) has.third has.second;
      second = second;
      entry = λ e. sym (ap (λ (b : Bool). if b && true then e else None) (stands (place p) tree page 1 (first + 3) has.lowest));
      above = is_itself (first + 3) ∙ ap (is_this (first + 3)) second;
    }
