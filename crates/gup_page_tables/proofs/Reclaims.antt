-- What is true of a process and the pool stays so when what was taken out comes free.
use Rattle.std.proofs.Common.{◌≡◌, ℕ, ◌==◌, ◌||◌, Bool, true, false, None, is_some, refl, sym, ◌∙◌, arith}
use Rattle.gup_tables.specs.Pool.{PoolValue}
use Rattle.gup_page_tables.specs.PageTables.{TablesValue, Both, IsOf, has_table, reclaims}
use Rattle.gup_page_tables.specs.Kept.{IsKept}
use Rattle.gup_page_tables.proofs.Taken.{or_left}
use Rattle.gup_spec_tables.specs.Tables.{is_among}

or_none : (b : Bool) → (b || false) ≡ b
or_none true = refl
or_none false = refl

module _ (b : Both) (kept : IsKept b.tables) where
  pub reclaims_kept : IsKept (reclaims b).tables
  reclaims_kept = go (b.tables.limbo.walks == 0) refl
    where
      go : (none : Bool) → (b.tables.limbo.walks == 0) ≡ none → IsKept (reclaims b).tables
      go true test = rw test (record { apart = tt; gone = λ t among. absurd cc; few = omega (arith, kept.few); room = kept.room })
      go false test = rw test kept

  module _ (own : IsOf b) where
    placed_free : (t : ℕ) → is_some (b.tables.tree.place t) ≡ true → (b.pool.free t || is_among b.tables.limbo.retired t) ≡ false
    placed_free t is =
        let free = (own.own t (or_left (is_some (b.tables.tree.place t)) (is_among b.tables.limbo.retired t) is)).1 in
        rw free (go (is_among b.tables.limbo.retired t) refl)
      where
        go : (among : Bool) → is_among b.tables.limbo.retired t ≡ among → is_among b.tables.limbo.retired t ≡ false
        go false none = none
        go true among = let gone : b.tables.tree.place t ≡ None = kept.gone t among in let none : is_some (b.tables.tree.place t) ≡ false = rw gone refl in absurd (cc (is, none))

    pub reclaims_own : IsOf (reclaims b)
    reclaims_own = go (b.tables.limbo.walks == 0) refl
      where
        go : (none : Bool) → (b.tables.limbo.walks == 0) ≡ none → IsOf (reclaims b)
        go true test =
            rw test
            (record {
              room = own.room;
              own = λ t has.
                  let placed : is_some (b.tables.tree.place t) ≡ true = sym (or_none (is_some (b.tables.tree.place t))) ∙ has in
                  ((own.own t (or_left (is_some (b.tables.tree.place t)) (is_among b.tables.limbo.retired t) placed)).0, placed_free t placed);
            })
        go false test = rw test own

-- the same tables, wherever the process has them
pub own_still : (v w : TablesValue) (pool : PoolValue) → w.tree.room ≡ v.tree.room → ((t : ℕ) → has_table w t ≡ has_table v t) → IsOf (record { tables = v; pool = pool }) → IsOf (record { tables = w; pool = pool })
own_still v w pool room same own = record {
  room = omega (arith, own.room, room);
  own = λ t has. own.own t (sym (same t) ∙ has);
}
