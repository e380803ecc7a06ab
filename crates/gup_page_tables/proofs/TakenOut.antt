-- A table is taken out of the tree, and waits.
use Rattle.std.proofs.Common.{◌≡◌, ◌≢◌, ℕ, zero, suc, ◌<◌, ◌==◌, ◌||◌, Bool, true, false, [], ◌∷◌, length, length-append, Option, Some, None, is_some, refl, ap, sym, ◌∙◌, ⊎_elim, arith}
use Rattle.std.proofs.lemmas.Bool.{cases_eq}
use Rattle.std.proofs.lemmas.Bool.Decides.{nat_tests}
use Rattle.gup_spec_tables.specs.Tables.{table_numbers, placed_tables, detachable, is_among}
use Rattle.gup_spec_tables.proofs.Among.{among_behind, apart_behind}
use Rattle.gup_tables.proofs.Detachable.{stands}
use Rattle.gup_page_tables.specs.PageTables.{TablesValue, has_table, retires, shrinks}
use Rattle.gup_page_tables.specs.Kept.{IsKept}
use Rattle.gup_tables.proofs.FreeTables.{some_passing}

-- where none can be taken out, none is
none_out : (o : Option ℕ) (v : TablesValue) → is_some o ≡ false → retires o v ≡ v
none_out None v none = refl
none_out (Some table) v none = absurd cc

pub stuck : (page n : ℕ) (v : TablesValue) → is_some (detachable v.tree page) ≡ false → shrinks page n v ≡ v
stuck page zero v none = refl
stuck page (suc n) v none = ap (shrinks page n) (none_out (detachable v.tree page) v none) ∙ stuck page n v none

module _ (v : TablesValue) (kept : IsKept v) (counted : placed_tables v.tree.place ≡ v.tree.tables) (page table : ℕ) (is : detachable v.tree page ≡ Some table) where
  placed : is_some (v.tree.place table) ≡ true
  placed = rw ((stands v.tree page table is).1) refl

  pub some : 0 < v.tree.tables
  some = let one = some_passing table_numbers (λ t. is_some (v.tree.place t)) table ((stands v.tree page table is).0) placed in omega (arith, one, counted)

  -- it wasn't taken out before
  new : is_among v.limbo.retired table ≡ false
  new = go (is_among v.limbo.retired table) refl
    where
      go : (b : Bool) → is_among v.limbo.retired table ≡ b → is_among v.limbo.retired table ≡ false
      go false none = none
      go true among = let gone : v.tree.place table ≡ None = kept.gone table among in let none : is_some (v.tree.place table) ≡ false = rw gone refl in absurd (cc (placed, none))

  -- there is room for it
  pub waits : length v.limbo.retired < v.limbo.room
  waits = omega (arith, kept.few, some, kept.room)

  pub same_has : (t : ℕ) → has_table (retires (Some table) v) t ≡ has_table v t
  same_has t =
      ⊎_elim
      (λ (here : t ≡ table).
      let test : (t == table) ≡ true = grind (arith, nat_tests) in
      let before : is_some (v.tree.place t) ≡ true = rw here placed in
      rw (test, among_behind v.limbo.retired table t, before) (rw test (last_true (is_among v.limbo.retired t))))
      (λ (away : t ≢ table).
      let test : (t == table) ≡ false = grind (arith, nat_tests) in
      rw (test, among_behind v.limbo.retired table t) (rw test (ap (λ b. is_some (v.tree.place t) || b) (or_none (is_among v.limbo.retired t)))))
      (cases_eq t table)
    where
      last_true : (b : Bool) → (b || true) ≡ true
      last_true true = refl
      last_true false = refl

      or_none : (b : Bool) → (b || false) ≡ b
      or_none true = refl
      or_none false = refl

  pub retires_kept : IsKept (retires (Some table) v)
  retires_kept = record {
    apart = apart_behind v.limbo.retired table kept.apart new;
    gone = λ t among.
        ⊎_elim
        (λ (here : t ≡ table). let test : (t == table) ≡ true = grind (arith, nat_tests) in rw test refl)
        (λ (away : t ≢ table).
        let test : (t == table) ≡ false = grind (arith, nat_tests) in
        let before : is_among v.limbo.retired t ≡ true = sym (or_none (is_among v.limbo.retired t)) ∙ ap (λ b. is_among v.limbo.retired t || b) (sym test) ∙ sym (among_behind v.limbo.retired table t) ∙ among in
        rw test (kept.gone t before))
        (cases_eq t table);
    few = let len = length-append v.limbo.retired (table ∷ []) in omega (arith, kept.few, some, len);
    room = kept.room;
  }
    where
      or_none : (b : Bool) → (b || false) ≡ b
      or_none true = refl
      or_none false = refl
