-- Down a page's path words lead from table to table as far as there are any, and the entry that is read at the end is the page's.
use Rattle.std.proofs.Common.{◌≡◌, ℕ, ◌+◌, ◌<◌, ◌&&◌, Bool, true, false, if◌then◌else◌, is_some, [], Option, Some, None, IsSome, refl, ap, sym, ◌∙◌, arith}
use Rattle.gup_base.specs.declared.entry.Entry.{Entry}
use Rattle.gup_spec_tables.specs.Tables.{TreeValue, table_at, on_path, is_at, missing, lacks}
use Rattle.gup_spec_tables.specs.Paths.{and_table, path_to}
use Rattle.gup_tables.proofs.Places.{at_some, is_at_own}
use Rattle.gup_law_tables.specs.Standing.{IsTree}
use Rattle.gup_law_tables.specs.Down.{IsDown}
use Rattle.gup_law_tables.proofs.Trees.{on_it, up}

-- a table of the path stands where it is found
pub stands_there : (v : TreeValue) (page level table : ℕ) → table_at v.place (on_path level page) ≡ Some table → is_at (on_path level page) (v.place table) ≡ true
stands_there v page level table at =
    ap (is_at (on_path level page)) ((at_some v.place (on_path level page) table at).1) ∙ is_at_own (on_path level page)

module _ (v : TreeValue) (tree : IsTree v.place) (page : ℕ) where
  -- below a missing table there is none
  none_below : (level table : ℕ) → level < 4 → table_at v.place (on_path level page) ≡ Some table → table_at v.place (on_path (level + 1) page) ≡ None → ⊥
  none_below level table lower there none =
      let some : on_it v tree page (level + 1) ≡ true = up v tree page level lower (ap is_some there) in
      let no : is_some (table_at v.place (on_path (level + 1) page)) ≡ false = ap is_some none in
      cc (some, no)

  no_entry : table_at v.place (on_path 1 page) ≡ None → (IsSome (v.entry page) → lacks v page ≡ 0) → None ≡ v.entry page
  no_entry none full = go (v.entry page) refl
    where
      one : missing v 1 page ≡ 1
      one = ap (λ (o : Option ℕ). if is_some o then 0 else 1) none

      go : (o : Option Entry) → v.entry page ≡ o → None ≡ v.entry page
      go None is = sym is
      go (Some e) is = let zero : lacks v page ≡ 0 = full (ap is_some is) in absurd (omega (arith, zero, one))

  down : (o1 o2 o3 : Option ℕ) → table_at v.place (on_path 1 page) ≡ o1 → table_at v.place (on_path 2 page) ≡ o2 → table_at v.place (on_path 3 page) ≡ o3 → IsDown v page (and_table o1 (and_table o2 (and_table o3 [])))
  down None None None at1 at2 at3 = record { leads = tt; ends = at3; reads = λ full. no_entry at1 full }
  down None None (Some third) at1 at2 at3 =
      let there = stands_there v page 3 third at3 in
      record {
        leads = (at3, tt);
        ends = ap (λ (b : Bool). if b && true then table_at v.place (on_path 2 page) else None) there ∙ at2;
        reads = λ full. ap (λ (b : Bool). if b && false then v.entry page else None) there ∙ no_entry at1 full;
      }
  down None (Some second) (Some third) at1 at2 at3 =
      let there = stands_there v page 2 second at2 in
      record {
        leads = (ap (λ (b : Bool). if b && true then table_at v.place (on_path 2 page) else None) (stands_there v page 3 third at3) ∙ at2, (at3, tt));
        ends = ap (λ (b : Bool). if b && true then table_at v.place (on_path 1 page) else None) there ∙ at1;
        reads = λ full. ap (λ (b : Bool). if b && false then v.entry page else None) there ∙ no_entry at1 full;
      }
  down (Some last) (Some second) (Some third) at1 at2 at3 =
      let there = stands_there v page 1 last at1 in
      record {
        leads = (
          ap (λ (b : Bool). if b && true then table_at v.place (on_path 1 page) else None) (stands_there v page 2 second at2) ∙ at1,
          (
            ap (λ (b : Bool). if b && true then table_at v.place (on_path 2 page) else None) (stands_there v page 3 third at3) ∙ at2,
            (at3, tt),
          ),
        );
        ends = ap (λ (b : Bool). if b && false then table_at v.place (on_path 0 page) else None) there;
        reads = λ full. ap (λ (b : Bool). if b && true then v.entry page else None) there;
      }
  down (Some last) None o3 at1 at2 at3 = absurd (none_below 1 last (omega arith) at1 at2)
  down o1 (Some second) None at1 at2 at3 = absurd (none_below 2 second (omega arith) at2 at3)

  pub is_down : IsDown v page (path_to v page)
  is_down =
      down (table_at v.place (on_path 1 page)) (table_at v.place (on_path 2 page)) (table_at v.place (on_path 3 page)) refl refl refl
