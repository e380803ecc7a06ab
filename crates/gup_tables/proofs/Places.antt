-- Which table stands at a place.
use Rattle.std.proofs.Common.{◌≡◌, ◌≢◌, ℕ, ◌%◌, ◌<◌, ◌==◌, Bool, true, false, Option, Some, None, IsSome, IfSome, is_some, refl, ap, sym, ◌∙◌, ⊎_elim, arith}
use Rattle.std.proofs.lemmas.Bool.{cases_eq}
use Rattle.std.proofs.lemmas.Bool.Decides.{nat_tests}
use Rattle.gup_plain.specs.Put.{put, put2}
use Rattle.gup_bits.proofs.Lowest.{lowest_none, lowest_same, lowest_some, lowest_absent}
use Rattle.gup_spec_tables.specs.declared.place.Place.{Place}
use Rattle.gup_spec_tables.specs.Tables.{table_numbers, is_at, table_at, above, below}

pub put_same : {X : Type 0} (k : ℕ) (x : X) (f : ℕ → X) → put k x f k ≡ x
put_same k x f = let test : (k == k) ≡ true = grind (arith, nat_tests) in rw test refl

pub put_other : {X : Type 0} (k : ℕ) (x : X) (f : ℕ → X) (j : ℕ) → j ≢ k → put k x f j ≡ f j
put_other k x f j apart = let test : (j == k) ≡ false = grind (arith, nat_tests) in rw test refl

pub put2_same : (k l x : ℕ) (f : ℕ → ℕ → ℕ) → put2 k l x f k l ≡ x
put2_same k l x f = let test : (k == k) ≡ true = grind (arith, nat_tests) in rw test (put_same l x (f k))

pub put2_other : (k l x : ℕ) (f : ℕ → ℕ → ℕ) (i j : ℕ) → (i ≡ k → j ≡ l → ⊥) → put2 k l x f i j ≡ f i j
put2_other k l x f i j apart =
    ⊎_elim
    (λ (here : i ≡ k). let test : (i == k) ≡ true = grind (arith, nat_tests) in rw test (put_other l x (f i) j (apart here)))
    (λ (away : i ≢ k). let test : (i == k) ≡ false = grind (arith, nat_tests) in rw test refl)
    (cases_eq i k)

-- places are the same if level and span are
abbrev pub at_level : (level span : ℕ) → Place
at_level level span = record { level = level; span = span }

pub same_place : (p q : Place) → q.level ≡ p.level → q.span ≡ p.span → q ≡ p
same_place p q level span = ap (λ n. at_level n q.span) level ∙ ap (at_level p.level) span

pub other_level : (p q : Place) → (q.level ≡ p.level → ⊥) → q ≢ p
other_level p q apart is = apart (ap (λ (r : Place). r.level) is)

pub is_at_own : (p : Place) → is_at p (Some p) ≡ true
is_at_own p = grind (arith, nat_tests)

pub is_at_is : (p : Place) (o : Option Place) → is_at p o ≡ true → o ≡ Some p
is_at_is p None test = absurd cc
is_at_is p (Some q) test = ap Some (same_place p q (grind (arith, nat_tests, test)) (grind (arith, nat_tests, test)))

pub is_at_other : (p q : Place) → q ≢ p → is_at p (Some q) ≡ false
is_at_other p q apart = go (is_at p (Some q)) refl
  where
    go : (b : Bool) → is_at p (Some q) ≡ b → is_at p (Some q) ≡ false
    go false is = is
    go true is = let same : Some q ≡ Some p = is_at_is p (Some q) is in absurd (apart (cc))

-- a table is found or it isn't
pub no_table : (o : Option ℕ) → IsSome o → o ≡ None → ⊥
no_table o some none = let is : is_some o ≡ true = some in let none_is : is_some o ≡ false = rw none refl in absurd cc

-- the table found at a place stands there
pub at_some : (place : ℕ → Option Place) (p : Place) (table : ℕ) → table_at place p ≡ Some table → (table < table_numbers) × (place table ≡ Some p)
at_some place p table is =
    let h = lowest_some 0 table_numbers (λ t. is_at p (place t)) table is in
    (omega (arith, h.1), is_at_is p (place table) h.2)

pub some_there : (place : ℕ → Option Place) (p : Place) (o : Option ℕ) → o ≡ table_at place p → IfSome o (λ table. place table ≡ Some p)
some_there place p None is = tt
some_there place p (Some table) is = (at_some place p table (sym is)).1

-- where none is found, none stands
pub at_none : (place : ℕ → Option Place) (p : Place) → table_at place p ≡ None → (table : ℕ) → table < table_numbers → place table ≡ Some p → ⊥
at_none place p is table within there =
    let none : is_at p (place table) ≡ false = lowest_absent 0 table_numbers (λ t. is_at p (place t)) is table (omega arith) (omega (arith, within)) in
    let some : is_at p (place table) ≡ true = rw there (is_at_own p) in
    absurd cc

-- tables stand at different places
pub record ArePlaced (place : ℕ → Option Place) : Type 0 where
  pub numbered : (table : ℕ) (p : Place) → place table ≡ Some p → table < table_numbers
  pub apart : (table other : ℕ) (p : Place) → place table ≡ Some p → place other ≡ Some p → table ≡ other

pub found : (place : ℕ → Option Place) (table : ℕ) (p : Place) → ArePlaced place → place table ≡ Some p → table_at place p ≡ Some table
found place table p placed there = go (table_at place p) refl
  where
    go : (o : Option ℕ) → table_at place p ≡ o → table_at place p ≡ Some table
    go None is = absurd (at_none place p is table (placed.numbered table p there) there)
    go (Some other) is = let h = at_some place p other is in is ∙ ap Some (placed.apart other table p h.1 there)

-- one more stands at a place where none did
module _ (place : ℕ → Option Place) (placed : ArePlaced place) (table : ℕ) (p : Place) (new : place table ≡ None) (small : table < table_numbers) (free : table_at place p ≡ None) where
  pub added_placed : ArePlaced (put table (Some p) place)
  added_placed = record {
    numbered = λ other q there.
        ⊎_elim
        (λ (here : other ≡ table). rw here small)
        (λ (away : other ≢ table). placed.numbered other q (sym (put_other table (Some p) place other away) ∙ there))
        (cases_eq other table);
    apart = λ one other q there same.
        ⊎_elim
        (λ (here : one ≡ table).
        ⊎_elim
        (λ (too : other ≡ table). here ∙ sym too)
        (λ (away : other ≢ table).
        let own : Some p ≡ Some q = sym (put_same table (Some p) place) ∙ (rw here at there) in
        let is : p ≡ q = cc in
        absurd (at_none place p free other (placed.numbered other q (sym (put_other table (Some p) place other away) ∙ same)) (rw is (sym (put_other table (Some p) place other away) ∙ same))))
        (cases_eq other table))
        (λ (away : one ≢ table).
        ⊎_elim
        (λ (here : other ≡ table).
        let own : Some p ≡ Some q = sym (put_same table (Some p) place) ∙ (rw here at same) in
        let is : p ≡ q = cc in
        absurd (at_none place p free one (placed.numbered one q (sym (put_other table (Some p) place one away) ∙ there)) (rw is (sym (put_other table (Some p) place one away) ∙ there))))
        (λ (too : other ≢ table). placed.apart one other q (sym (put_other table (Some p) place one away) ∙ there) (sym (put_other table (Some p) place other too) ∙ same))
        (cases_eq other table))
        (cases_eq one table);
  }

  pub added_here : table_at (put table (Some p) place) p ≡ Some table
  added_here = found (put table (Some p) place) table p added_placed (put_same table (Some p) place)

  pub added_other : (q : Place) → q ≢ p → table_at (put table (Some p) place) q ≡ table_at place q
  added_other q apart = lowest_same 0 table_numbers (λ t. is_at q (put table (Some p) place t)) (λ t. is_at q (place t)) (λ t more less. at t)
    where
      at : (t : ℕ) → is_at q (put table (Some p) place t) ≡ is_at q (place t)
      at t =
          ⊎_elim
          (λ (here : t ≡ table).
          rw (here, put_same table (Some p) place, new) (is_at_other q p (λ e. apart (sym e))))
          (λ (away : t ≢ table). ap (is_at q) (put_other table (Some p) place t away))
          (cases_eq t table)

-- one that stands at a place is taken away
module _ (place : ℕ → Option Place) (placed : ArePlaced place) (table : ℕ) (p : Place) (there : place table ≡ Some p) where
  pub removed_placed : ArePlaced (put table None place)
  removed_placed = record {
    numbered = λ other q is. placed.numbered other q (still other q is);
    apart = λ one other q is same. placed.apart one other q (still one q is) (still other q same);
  }
    where
      still : (other : ℕ) (q : Place) → put table None place other ≡ Some q → place other ≡ Some q
      still other q is =
          ⊎_elim
          (λ (here : other ≡ table). let gone : put table None place other ≡ None = rw here (put_same table None place) in absurd cc)
          (λ (away : other ≢ table). sym (put_other table None place other away) ∙ is)
          (cases_eq other table)

  pub removed_here : table_at (put table None place) p ≡ None
  removed_here = lowest_none 0 table_numbers (λ t. is_at p (put table None place t)) (λ t more less. at t)
    where
      at : (t : ℕ) → is_at p (put table None place t) ≡ false
      at t =
          ⊎_elim
          (λ (here : t ≡ table). rw (here, put_same table None place) refl)
          (λ (away : t ≢ table). rw (put_other table None place t away) (go away (is_at p (place t)) refl))
          (cases_eq t table)
        where
          go : t ≢ table → (b : Bool) → is_at p (place t) ≡ b → is_at p (place t) ≡ false
          go away false is = is
          go away true is = absurd (away (placed.apart t table p (is_at_is p (place t) is) there))

  pub removed_other : (q : Place) → q ≢ p → table_at (put table None place) q ≡ table_at place q
  removed_other q apart = lowest_same 0 table_numbers (λ t. is_at q (put table None place t)) (λ t. is_at q (place t)) (λ t more less. at t)
    where
      at : (t : ℕ) → is_at q (put table None place t) ≡ is_at q (place t)
      at t =
          ⊎_elim
          (λ (here : t ≡ table). rw (here, put_same table None place, there) (sym (is_at_other q p (λ e. apart (sym e)))))
          (λ (away : t ≢ table). ap (is_at q) (put_other table None place t away))
          (cases_eq t table)

-- what leads to a place leads there from above
pub below_above : (p : Place) → below (above p) (p.span % 512) ≡ p
below_above p = same_place p (below (above p) (p.span % 512)) (omega arith) (omega arith)

pub above_below : (p : Place) (i : ℕ) → 0 < p.level → i < 512 → above (below p i) ≡ p
above_below p i some within = same_place p (above (below p i)) (omega arith) (omega arith)
