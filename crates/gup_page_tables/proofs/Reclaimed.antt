-- One table that was taken out comes free.
use Rattle.std.proofs.Common.{◌≡◌, ◌≢◌, ℕ, ◌<◌, ◌==◌, ◌||◌, Bool, true, false, List, ◌∷◌, refl, ap, sym, ◌∙◌, ⊎_elim, arith}
use Rattle.std.proofs.Math.Path.{fun_ext}
use Rattle.std.proofs.lemmas.Bool.{cases_eq}
use Rattle.std.proofs.lemmas.Bool.Decides.{nat_tests}
use Rattle.gup_limbo.specs.Limbo.{LimboValue}
use Rattle.gup_plain.specs.Put.{put}
use Rattle.gup_tables.specs.Pool.{PoolValue, with_free}
use Rattle.gup_page_tables.specs.PageTables.{freed_by, cleared}
use Rattle.gup_spec_tables.specs.Tables.{is_among, AreApart}

pub among_first : (first : ℕ) (rest : List ℕ) → is_among (first ∷ rest) first ≡ true
among_first first rest = let test : (first == first) ≡ true = grind (arith, nat_tests) in rw test refl

pub among_rest : (first : ℕ) (rest : List ℕ) (number : ℕ) → is_among rest number ≡ true → is_among (first ∷ rest) number ≡ true
among_rest first rest number is = go (number == first)
  where
    go : (b : Bool) → (b || is_among rest number) ≡ true
    go true = refl
    go false = is

or_true : (b : Bool) → (b || true) ≡ true
or_true true = refl
or_true false = refl

module _ (limbo now : LimboValue ℕ) (pool after : PoolValue) (table : ℕ) (step : (limbo.walks ≡ 0) × (limbo.retired ≡ table ∷ now.retired) × (now ≡ record limbo { retired = now.retired })) (apart : AreApart limbo.retired) (own : (t : ℕ) → is_among limbo.retired t ≡ true → (t < pool.tables) × (pool.free t ≡ false)) where
  pub first_own : (table < pool.tables) × (pool.free table ≡ false)
  first_own = own table (rw (step.1) (among_first table now.retired))

  parts : AreApart (table ∷ now.retired)
  parts = rw (step.1) at apart

  pub rest_apart : AreApart now.retired
  rest_apart = parts.1

  module _ (given : after ≡ with_free table true pool) where
    free_is : (t : ℕ) → after.free t ≡ put table true pool.free t
    free_is t = ap (λ (p : PoolValue). p.free t) given

    pub rest_own : (t : ℕ) → is_among now.retired t ≡ true → (t < after.tables) × (after.free t ≡ false)
    rest_own t is =
        let other : t ≢ table = λ e. let gone : is_among now.retired t ≡ false = rw e (parts.0) in absurd (cc (is, gone)) in
        let was = own t (rw (step.1) (among_rest table now.retired t is)) in
        let tables : after.tables ≡ pool.tables = ap (λ (p : PoolValue). p.tables) given in
        let test : (t == table) ≡ false = grind (arith, nat_tests) in
        let same : put table true pool.free t ≡ pool.free t = rw test refl in
        (omega (arith, was.0, tables), free_is t ∙ same ∙ was.1)

    zero : (limbo.walks == 0) ≡ true
    zero = grind (arith, nat_tests, step.0)

    pub same_cleared : cleared now ≡ cleared limbo
    same_cleared = ap cleared (step.2) ∙ rw zero refl

    free_at : (t : ℕ) → (after.free t || is_among now.retired t) ≡ (pool.free t || is_among (table ∷ now.retired) t)
    free_at t =
        ⊎_elim
        (λ (here : t ≡ table).
        let test : (t == table) ≡ true = grind (arith, nat_tests) in
        let free : after.free t ≡ true = free_is t ∙ rw test refl in
        rw (free, test) (sym (or_true (pool.free t))))
        (λ (away : t ≢ table).
        let test : (t == table) ≡ false = grind (arith, nat_tests) in
        let free : after.free t ≡ pool.free t = free_is t ∙ rw test refl in
        rw (free, test) refl)
        (cases_eq t table)

    abbrev of : ℕ → (ℕ → Bool) → PoolValue
    of tables free = record { tables = tables; free = free }

    pub same_freed : freed_by now after ≡ freed_by limbo pool
    same_freed =
        let walks : now.walks ≡ limbo.walks = ap (λ (l : LimboValue ℕ). l.walks) (step.2) in
        let tables : after.tables ≡ pool.tables = ap (λ (p : PoolValue). p.tables) given in
        rw (walks, zero, step.1)
        (ap (λ n. of n (λ t. after.free t || is_among now.retired t)) tables ∙ ap (of pool.tables) (fun_ext free_at))
