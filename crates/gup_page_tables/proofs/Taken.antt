-- A table more in the tree, from the pool.
use Rattle.std.proofs.Common.{◌≡◌, ◌≢◌, ℕ, suc, ◌+◌, ◌-◌, ◌<◌, ◌≤◌, ◌==◌, ◌||◌, Bool, true, false, length, Option, Some, None, IsSome, is_some, refl, ap, sym, ◌∙◌, ⊎_elim, arith}
use Rattle.std.proofs.lemmas.Bool.{cases_eq}
use Rattle.std.proofs.lemmas.Bool.Decides.{nat_tests}
use Rattle.gup_bits.proofs.Lowest.{lowest_some}
use Rattle.gup_plain.specs.Put.{put, lowest}
use Rattle.gup_plain.proofs.Sums.{one_more_passing}
use Rattle.gup_tables.specs.Pool.{free_tables}
use Rattle.gup_spec_tables.specs.Tables.{table_numbers, placed_tables, is_among}
use Rattle.gup_page_tables.specs.PageTables.{Both, IsOf, has_table, takes, grows}
use Rattle.gup_page_tables.specs.Kept.{IsKept}
use Rattle.gup_page_tables.proofs.Counts.{passing_within, passing_apart, passing_among}
use Rattle.gup_tables.proofs.FreeTables.{none_lowest, some_passing}

pub or_false : (a b : Bool) → (a || b) ≡ false → (a ≡ false) × (b ≡ false)
or_false true b none = absurd cc
or_false false b none = (refl, none)

pub or_left : (a b : Bool) → a ≡ true → (a || b) ≡ true
or_left a b is = rw is refl

pub or_right : (a b : Bool) → b ≡ true → (a || b) ≡ true
or_right true b is = refl
or_right false b is = is

none_placed : {X : Type 0} (o : Option X) → is_some o ≡ false → o ≡ None
none_placed None is = refl
none_placed (Some x) is = absurd cc

module _ (b : Both) (own : IsOf b) (kept : IsKept b.tables) (counted : placed_tables b.tables.tree.place ≡ b.tables.tree.tables) where
  placed_own : (t : ℕ) → is_some (b.tables.tree.place t) ≡ true → (t < b.pool.tables) × (b.pool.free t ≡ false)
  placed_own t is = own.own t (or_left (is_some (b.tables.tree.place t)) (is_among b.tables.limbo.retired t) is)

  among_own : (t : ℕ) → is_among b.tables.limbo.retired t ≡ true → (t < b.pool.tables) × (b.pool.free t ≡ false)
  among_own t is = own.own t (or_right (is_some (b.tables.tree.place t)) (is_among b.tables.limbo.retired t) is)

  not_among : (t : ℕ) → is_some (b.tables.tree.place t) ≡ true → is_among b.tables.limbo.retired t ≡ false
  not_among t is = go (is_among b.tables.limbo.retired t) refl
    where
      go : (a : Bool) → is_among b.tables.limbo.retired t ≡ a → is_among b.tables.limbo.retired t ≡ false
      go false none = none
      go true some = let gone : b.tables.tree.place t ≡ None = kept.gone t some in let none : is_some (b.tables.tree.place t) ≡ false = rw gone refl in absurd cc

  -- all together they are no more than the pool's
  pub all_counted : b.tables.tree.tables + length b.tables.limbo.retired + free_tables b.pool ≤ b.pool.tables
  all_counted =
      let placed = passing_within table_numbers b.pool.tables (λ t. is_some (b.tables.tree.place t)) (λ t is. (placed_own t is).0) in
      let among = passing_among b.pool.tables b.tables.limbo.retired kept.apart (λ t is. (among_own t is).0) in
      let together = passing_apart b.pool.tables (λ t. is_some (b.tables.tree.place t)) (is_among b.tables.limbo.retired) b.pool.free (λ t is. (not_among t is, (placed_own t is).1)) (λ t is. (among_own t is).1) in
      omega (arith, placed, among, together, counted)

  -- one is free
  pub some_free : 0 < free_tables b.pool → IsSome (lowest 0 b.pool.tables b.pool.free)
  some_free some = go (lowest 0 b.pool.tables b.pool.free) refl
    where
      go : (o : Option ℕ) → lowest 0 b.pool.tables b.pool.free ≡ o → IsSome (lowest 0 b.pool.tables b.pool.free)
      go None is = absurd (let none = none_lowest b.pool.tables b.pool.free is in omega (arith, none, some))
      go (Some t) is = rw is refl

  module _ (table page : ℕ) (lowest_is : lowest 0 b.pool.tables b.pool.free ≡ Some table) where
    found : (table < b.pool.tables) × (b.pool.free table ≡ true)
    found = let h = lowest_some 0 b.pool.tables b.pool.free table lowest_is in (omega (arith, h.1), h.2)

    -- nobody has it
    pub nobody : has_table b.tables table ≡ false
    nobody = go (has_table b.tables table) refl
      where
        go : (a : Bool) → has_table b.tables table ≡ a → has_table b.tables table ≡ false
        go false is = is
        go true is = let taken : b.pool.free table ≡ false = (own.own table is).1 in let free : b.pool.free table ≡ true = found.1 in absurd cc

    pub unplaced : b.tables.tree.place table ≡ None
    unplaced = none_placed (b.tables.tree.place table) ((or_false (is_some (b.tables.tree.place table)) (is_among b.tables.limbo.retired table) nobody).0)

    pub fits : b.tables.tree.tables < b.tables.tree.room
    fits =
        let some = some_passing b.pool.tables b.pool.free table found.0 found.1 in
        omega (arith, all_counted, some, own.room)

    -- one less is free
    pub fewer : free_tables b.pool ≡ free_tables (takes page (Some table) b).pool + 1
    fewer =
        let own_test : (table == table) ≡ true = grind (arith, nat_tests) in
        one_more_passing b.pool.tables (put table false b.pool.free) b.pool.free table found.0 (rw own_test refl) found.1 (λ t test. rw test refl)

    other_place : (t : ℕ) → t ≢ table → (takes page (Some table) b).tables.tree.place t ≡ b.tables.tree.place t
    other_place t apart = let test : (t == table) ≡ false = grind (arith, nat_tests) in rw test refl

    pub takes_own : IsOf (takes page (Some table) b)
    takes_own = record {
      room = own.room;
      own = λ t has.
          ⊎_elim
          (λ (here : t ≡ table). let test : (t == table) ≡ true = grind (arith, nat_tests) in (rw here (found.0), rw test refl))
          (λ (away : t ≢ table).
          let test : (t == table) ≡ false = grind (arith, nat_tests) in
          let was = own.own t (ap (λ p. is_some p || is_among b.tables.limbo.retired t) (sym (other_place t away)) ∙ has) in
          (was.0, rw test (was.1)))
          (cases_eq t table);
    }

    pub takes_kept : IsKept (takes page (Some table) b).tables
    takes_kept = record {
      apart = kept.apart;
      gone = λ t among.
          ⊎_elim
          (λ (here : t ≡ table).
          let none : is_among b.tables.limbo.retired t ≡ false = rw here ((or_false (is_some (b.tables.tree.place table)) (is_among b.tables.limbo.retired table) nobody).1) in
          absurd (cc (among, none)))
          (λ (away : t ≢ table). other_place t away ∙ kept.gone t among)
          (cases_eq t table);
      few =
          let some = some_passing b.pool.tables b.pool.free table found.0 found.1 in
          omega (arith, all_counted, some, own.room);
      room = kept.room;
    }

-- what is left to grow after one table more
pub step_grown : (b new result : Both) (page table k end : ℕ) → lowest 0 b.pool.tables b.pool.free ≡ Some table → new ≡ takes page (Some table) b → k < end → grows page (end - k) b ≡ result → grows page (end - (k + 1)) new ≡ result
step_grown b new result page table k end lowest_is is less before =
    let count : end - k ≡ suc (end - (k + 1)) = omega (arith, less) in
    ap (grows page (end - (k + 1))) is
    ∙ ap (λ o. grows page (end - (k + 1)) (takes page o b)) (sym lowest_is)
    ∙ ap (λ n. grows page n b) (sym count)
    ∙ before

pub own_is : (b c : Both) → b ≡ c → IsOf c → IsOf b
own_is b c is own = rw is own

pub kept_is : (b c : Both) → b ≡ c → IsKept c.tables → IsKept b.tables
kept_is b c is kept = rw is kept
