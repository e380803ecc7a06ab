-- A table passes from the pool to a process, in it from the tree to those that wait, and from there back to the pool.
use Rattle.std.proofs.Common.{◌≡◌, ◌≢◌, ℕ, ◌+◌, ◌<◌, ◌==◌, ◌||◌, ◌⊎◌, inl, inr, Bool, true, false, is_some, List, [], ◌∷◌, ◌++◌, Option, Some, None, refl, ap, subst, sym, ◌∙◌, ⊎_elim, arith}
use Rattle.std.proofs.lemmas.Bool.{cases_eq}
use Rattle.std.proofs.lemmas.Bool.Decides.{nat_tests}
use Rattle.gup_plain.specs.Event.{page_numbers}
use Rattle.gup_plain.specs.Put.{put, put2}
use Rattle.gup_spec_tables.specs.declared.place.Place.{Place}
use Rattle.gup_spec_tables.specs.Tables.{table_numbers, TreeValue, on_path, lacks, detachable, is_among, AreApart}
use Rattle.gup_spec_tables.proofs.Among.{among_behind, apart_behind}
use Rattle.gup_tables.proofs.Detachable.{stands}
use Rattle.gup_tables.proofs.Places.{put_same, put_other}
use Rattle.gup_law_tables.specs.Standing.{IsTree, AreOwned, has}
use Rattle.gup_law_tables.proofs.Trees.{added, removed}

-- one of two tests passes
pub either : (b c : Bool) → (b || c) ≡ true → (b ≡ true) ⊎ (c ≡ true)
either true c is = inl refl
either false c is = inr is

pub left_true : (b c : Bool) → b ≡ true → (b || c) ≡ true
left_true b c is = rw is refl

pub right_true : (b c : Bool) → c ≡ true → (b || c) ≡ true
right_true true c is = refl
right_true false c is = is

both_false : (b c : Bool) → b ≡ false → c ≡ false → (b || c) ≡ false
both_false b c left right = rw (left, right) refl

pub here2 : (p table : ℕ) (x : Option Place) (place : ℕ → ℕ → Option Place) → put2 p table x place p ≡ put table x (place p)
here2 p table x place = let test : (p == p) ≡ true = grind (arith, nat_tests) in rw test refl

pub away2 : (p table : ℕ) (x : Option Place) (place : ℕ → ℕ → Option Place) (q : ℕ) → q ≢ p → put2 p table x place q ≡ place q
away2 p table x place q apart = let test : (q == p) ≡ false = grind (arith, nat_tests) in rw test refl

-- at each process where one changes: the one itself, and the others
by_process : (p : ℕ) (P : ℕ → Type 0) → P p → ((q : ℕ) → q ≢ p → P q) → (q : ℕ) → P q
by_process p P own others q = ⊎_elim (λ (here : q ≡ p). rw here own) (λ (away : q ≢ p). others q away) (cases_eq q p)

-- a table that is put into a tree takes none away
pub grown_keeps : (place : ℕ → ℕ → Option Place) (retired : ℕ → List ℕ) (p table : ℕ) (at : Place) (q other : ℕ) → has (place q) (retired q) other ≡ true → has (put2 p table (Some at) place q) (retired q) other ≡ true
grown_keeps place retired p table at q other had =
    ⊎_elim
    (λ (here : q ≡ p).
    ⊎_elim
    (λ (it : other ≡ table).
    let own : put2 p table (Some at) place q other ≡ Some at = rw (here, it, here2 p table (Some at) place) (put_same table (Some at) (place p)) in
    left_true (is_some (put2 p table (Some at) place q other)) (is_among (retired q) other) (rw own refl))
    (λ (away : other ≢ table).
    let same : put2 p table (Some at) place q other ≡ place q other = rw (here, here2 p table (Some at) place) (put_other table (Some at) (place p) other away) in
    ap (λ o. is_some o || is_among (retired q) other) same ∙ had)
    (cases_eq other table))
    (λ (away : q ≢ p). ap (λ (f : ℕ → Option Place). has f (retired q) other) (away2 p table (Some at) place q away) ∙ had)
    (cases_eq q p)

-- a table is taken out of the tree of a process, and waits behind the others
module _ (place : ℕ → ℕ → Option Place) (retired : ℕ → List ℕ) (v : TreeValue) (p page table : ℕ) (is : v.place ≡ place p) (out : detachable v page ≡ Some table) where
  stood : place p table ≡ Some (on_path (lacks v page + 1) page)
  stood = rw (← is) ((stands v page table out).1)

  own_had : (other : ℕ) → has (put table None (place p)) (retired p ++ table ∷ []) other ≡ has (place p) (retired p) other
  own_had other =
      ⊎_elim
      (λ (it : other ≡ table).
      let last : (table == table) ≡ true = grind (arith, nat_tests) in
      let waits : is_among (retired p ++ table ∷ []) table ≡ true = among_behind (retired p) table table ∙ right_true (is_among (retired p) table) (table == table) last in
      rw it (right_true (is_some (put table None (place p) table)) (is_among (retired p ++ table ∷ []) table) waits
      ∙ sym (left_true (is_some (place p table)) (is_among (retired p) table) (rw stood refl))))
      (λ (away : other ≢ table).
      let not_last : (other == table) ≡ false = grind (arith, nat_tests) in
      let same : is_among (retired p ++ table ∷ []) other ≡ is_among (retired p) other = among_behind (retired p) table other ∙ rw not_last (or_false (is_among (retired p) other)) in
      rw (same, put_other table None (place p) other away) refl)
      (cases_eq other table)
    where
      or_false : (b : Bool) → (b || false) ≡ b
      or_false true = refl
      or_false false = refl

  -- the process has the tables that it had
  pub same_had : (q other : ℕ) → has (put2 p table None place q) (put p (retired p ++ table ∷ []) retired q) other ≡ has (place q) (retired q) other
  same_had q other =
      by_process p (λ r. has (put2 p table None place r) (put p (retired p ++ table ∷ []) retired r) other ≡ has (place r) (retired r) other)
      (rw (here2 p table None place, put_same p (retired p ++ table ∷ []) retired) (own_had other))
      (λ r away. rw (away2 p table None place r away, put_other p (retired p ++ table ∷ []) retired r away) refl)
      q

module _ (free : ℕ → Bool) (place : ℕ → ℕ → Option Place) (retired : ℕ → List ℕ) (owned : AreOwned free place retired) where
  pub not_had : (p table : ℕ) → free table ≡ true → has (place p) (retired p) table ≡ false
  not_had p table is = go (has (place p) (retired p) table) refl
    where
      go : (b : Bool) → has (place p) (retired p) table ≡ b → has (place p) (retired p) table ≡ false
      go false none = none
      go true some = let taken = owned.taken p table some in absurd (cc (taken, is))

  placed_had : (p table : ℕ) (at : Place) → place p table ≡ Some at → has (place p) (retired p) table ≡ true
  placed_had p table at there = left_true (is_some (place p table)) (is_among (retired p) table) (rw there refl)

  -- a free table is put into the tree of a process
  module _ (v : TreeValue) (p page table : ℕ) (is : v.place ≡ place p) (is_free : free table ≡ true) (within : page < page_numbers) (some : 0 < lacks v page) where
    abbrev at : Place
    at = on_path (lacks v page) page

    pub unplaced : (q : ℕ) → place q table ≡ None
    unplaced q = go (place q table) refl
      where
        go : (o : Option Place) → place q table ≡ o → place q table ≡ None
        go None none = none
        go (Some other) there = let had = placed_had q table other there in let none = not_had q table is_free in absurd (cc (had, none))

    abbrev grown : ℕ → ℕ → Option Place
    grown = put2 p table (Some at) place

    -- each other table is had as before
    had_before : (q other : ℕ) → has (grown q) (retired q) other ≡ true → ((q ≡ p) × (other ≡ table)) ⊎ (has (place q) (retired q) other ≡ true)
    had_before q other had =
        ⊎_elim
        (λ (here : q ≡ p).
        ⊎_elim
        (λ (it : other ≡ table). inl (here, it))
        (λ (away : other ≢ table).
        let same : grown q other ≡ place q other = rw (here, here2 p table (Some at) place) (put_other table (Some at) (place p) other away) in
        inr (sym (ap (λ o. is_some o || is_among (retired q) other) same) ∙ had))
        (cases_eq other table))
        (λ (away : q ≢ p).
        inr (sym (ap (λ (f : ℕ → Option Place). has f (retired q) other) (away2 p table (Some at) place q away)) ∙ had))
        (cases_eq q p)

    tree_grown : (q : ℕ) → IsTree (grown q)
    tree_grown = by_process p (λ q. IsTree (grown q)) (rw (here2 p table (Some at) place) own) (λ q away. rw (away2 p table (Some at) place q away) (owned.trees q))
      where
        own : IsTree (put table (Some at) (place p))
        own =
            let tree : IsTree v.place = subst IsTree (sym is) (owned.trees p) in
            let new : v.place table ≡ None = ap (λ (f : ℕ → Option Place). f table) is ∙ unplaced p in
            subst (λ (f : ℕ → Option Place). IsTree (put table (Some at) f)) is (added v tree page table within new (owned.free_small table is_free) some)

    pub added_owned : AreOwned (put table false free) (put2 p table (Some (on_path (lacks v page) page)) place) retired
    added_owned = record {
      trees = tree_grown;
      free_small = λ other now. ⊎_elim
          (λ (it : other ≡ table). let gone : put table false free other ≡ false = rw it (put_same table false free) in absurd (cc (now, gone)))
          (λ (away : other ≢ table). owned.free_small other (sym (put_other table false free other away) ∙ now))
          (cases_eq other table);
      taken = λ q other had. ⊎_elim
          (λ (it : other ≡ table). rw it (put_same table false free))
          (λ (away : other ≢ table). put_other table false free other away ∙ ⊎_elim (λ (own : (q ≡ p) × (other ≡ table)). absurd (away own.1)) (λ before. owned.taken q other before) (had_before q other had))
          (cases_eq other table);
      one_owner = λ q r other had too. ⊎_elim
          (λ (own : (q ≡ p) × (other ≡ table)). ⊎_elim
          (λ (again : (r ≡ p) × (other ≡ table)). own.0 ∙ sym (again.0))
          (λ before. let none = not_had r table is_free in let some_had : has (place r) (retired r) table ≡ true = rw (own.1) at before in absurd (cc (none, some_had)))
          (had_before r other too))
          (λ before. ⊎_elim
          (λ (again : (r ≡ p) × (other ≡ table)). let none = not_had q table is_free in let some_had : has (place q) (retired q) table ≡ true = rw (again.1) at before in absurd (cc (none, some_had)))
          (λ then. owned.one_owner q r other before then)
          (had_before r other too))
          (had_before q other had);
      waiting = λ q other waits. (
        (owned.waiting q other waits).0,
        ⊎_elim
            (λ (here : q ≡ p). ⊎_elim
            (λ (it : other ≡ table).
            let had : has (place q) (retired q) table ≡ true = right_true (is_some (place q table)) (is_among (retired q) table) (rw it at waits) in
            let none = not_had q table is_free in
            absurd (cc (had, none)))
            (λ (away : other ≢ table). rw (here, here2 p table (Some at) place) (put_other table (Some at) (place p) other away ∙ (rw here at ((owned.waiting q other waits).1))))
            (cases_eq other table))
            (λ (away : q ≢ p). rw (away2 p table (Some at) place q away) ((owned.waiting q other waits).1))
            (cases_eq q p),
      );
      once = owned.once;
    }

  -- a table is taken out of the tree of a process, and waits
  module _ (v : TreeValue) (p page table : ℕ) (is : v.place ≡ place p) (out : detachable v page ≡ Some table) where
    was : place p table ≡ Some (on_path (lacks v page + 1) page)
    was = rw (← is) ((stands v page table out).1)

    unretired : is_among (retired p) table ≡ false
    unretired = go (is_among (retired p) table) refl
      where
        go : (b : Bool) → is_among (retired p) table ≡ b → is_among (retired p) table ≡ false
        go false none = none
        go true waits = let gone = (owned.waiting p table waits).1 in absurd (cc (gone, was))

    abbrev shrunk : ℕ → ℕ → Option Place
    shrunk = put2 p table None place

    abbrev longer : ℕ → List ℕ
    longer = put p (retired p ++ table ∷ []) retired

    own_waits : (other : ℕ) → is_among (retired p ++ table ∷ []) other ≡ true → (other < table_numbers) × (put table None (place p) other ≡ None)
    own_waits other waits =
        ⊎_elim
        (λ (it : other ≡ table). rw it ((stands v page table out).0, put_same table None (place p)))
        (λ (away : other ≢ table).
        let not_last : (other == table) ≡ false = grind (arith, nat_tests) in
        let before : is_among (retired p) other ≡ true = ⊎_elim (λ (b : is_among (retired p) other ≡ true). b) (λ (last : (other == table) ≡ true). absurd (cc (last, not_last))) (either (is_among (retired p) other) (other == table) (sym (among_behind (retired p) table other) ∙ waits)) in
        ((owned.waiting p other before).0, put_other table None (place p) other away ∙ (owned.waiting p other before).1))
        (cases_eq other table)

    pub removed_owned : AreOwned free (put2 p table None place) (put p (retired p ++ table ∷ []) retired)
    removed_owned = record {
      trees = by_process p (λ q. IsTree (shrunk q))
          (rw (here2 p table None place) (rw is at (removed v (rw is (owned.trees p)) page table out)))
          (λ q away. rw (away2 p table None place q away) (owned.trees q));
      free_small = owned.free_small;
      taken = λ q other had. owned.taken q other (sym (same_had place retired v p page table is out q other) ∙ had);
      one_owner = λ q r other had too. owned.one_owner q r other (sym (same_had place retired v p page table is out q other) ∙ had) (sym (same_had place retired v p page table is out r other) ∙ too);
      waiting = by_process p (λ q. (other : ℕ) → is_among (longer q) other ≡ true → (other < table_numbers) × (shrunk q other ≡ None))
          (rw (here2 p table None place, put_same p (retired p ++ table ∷ []) retired) own_waits)
          (λ q away. rw (away2 p table None place q away, put_other p (retired p ++ table ∷ []) retired q away) (owned.waiting q));
      once = by_process p (λ q. AreApart (longer q))
          (rw (put_same p (retired p ++ table ∷ []) retired) (apart_behind (retired p) table (owned.once p) unretired))
          (λ q away. rw (put_other p (retired p ++ table ∷ []) retired q away) (owned.once q));
    }

  -- the tables that a process has taken out come free
  module _ (p : ℕ) where
    abbrev cleared : ℕ → List ℕ
    cleared = put p [] retired

    had_before_it : (q other : ℕ) → has (place q) (cleared q) other ≡ true → has (place q) (retired q) other ≡ true
    had_before_it q other =
        by_process p (λ r. has (place r) (cleared r) other ≡ true → has (place r) (retired r) other ≡ true)
        (λ had. ⊎_elim
        (λ (placed : is_some (place p other) ≡ true). left_true (is_some (place p other)) (is_among (retired p) other) placed)
        (λ (waits : is_among (cleared p) other ≡ true). let none : is_among (cleared p) other ≡ false = rw (put_same p [] retired) refl in absurd (cc (none, waits)))
        (either (is_some (place p other)) (is_among (cleared p) other) had))
        (λ r away had. rw (put_other p [] retired r away) at had)
        q

    not_waiting : (q other : ℕ) → has (place q) (cleared q) other ≡ true → is_among (retired p) other ≡ false
    not_waiting q other had = go (is_among (retired p) other) refl
      where
        go : (b : Bool) → is_among (retired p) other ≡ b → is_among (retired p) other ≡ false
        go false none = none
        go true waits =
            let mine : has (place p) (retired p) other ≡ true = right_true (is_some (place p other)) (is_among (retired p) other) waits in
            let same : q ≡ p = owned.one_owner q p other (had_before_it q other had) mine in
            let gone : has (place p) (cleared p) other ≡ false = rw (put_same p [] retired, (owned.waiting p other waits).1) refl in
            let kept : has (place p) (cleared p) other ≡ true = rw same at had in
            absurd (cc (gone, kept))

    pub reclaimed_owned : AreOwned (λ table. free table || is_among (retired p) table) place (put p [] retired)
    reclaimed_owned = record {
      trees = owned.trees;
      free_small = λ other now. ⊎_elim (λ (before : free other ≡ true). owned.free_small other before) (λ (waits : is_among (retired p) other ≡ true). (owned.waiting p other waits).0) (either (free other) (is_among (retired p) other) now);
      taken = λ q other had. both_false (free other) (is_among (retired p) other) (owned.taken q other (had_before_it q other had)) (not_waiting q other had);
      one_owner = λ q r other had too. owned.one_owner q r other (had_before_it q other had) (had_before_it r other too);
      waiting = by_process p (λ q. (other : ℕ) → is_among (cleared q) other ≡ true → (other < table_numbers) × (place q other ≡ None))
          (rw (put_same p [] retired) (λ other waits. absurd cc))
          (λ q away. rw (put_other p [] retired q away) (owned.waiting q));
      once = by_process p (λ q. AreApart (cleared q))
          (rw (put_same p [] retired) tt)
          (λ q away. rw (put_other p [] retired q away) (owned.once q));
    }
