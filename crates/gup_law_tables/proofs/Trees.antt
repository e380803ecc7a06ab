-- A table is put into a tree where one is missing, and taken out of it where it is empty.
use Rattle.std.proofs.Common.{◌≡◌, ◌≢◌, ℕ, ◌+◌, ◌/◌, ◌%◌, ◌^◌, ◌<◌, ◌==◌, ◌⊎◌, inl, inr, nat_lt, Bool, true, false, not, cond, is_some, Option, Some, None, IsSome, refl, ap, sym, ◌∙◌, ⊎_elim, arith}
use Rattle.std.proofs.lemmas.Bool.{cases_eq}
use Rattle.std.proofs.lemmas.Bool.Decides.{nat_tests}
use Rattle.gup_plain.specs.Denial.{any_below}
use Rattle.gup_plain.specs.Event.{page_numbers}
use Rattle.gup_plain.specs.Put.{put}
use Rattle.gup_maps.proofs.Ranges.{any_below_some}
use Rattle.gup_spec_tables.specs.declared.place.Place.{Place}
use Rattle.gup_spec_tables.specs.Tables.{table_numbers, table_words, TreeValue, table_at, on_path, above, below, link_to, word_of, word_where, word_here, is_empty, if_empty, lacks, detachable}
use Rattle.gup_tables.proofs.Detachable.{stands}
use Rattle.gup_tables.proofs.Paths.{path_above}
use Rattle.gup_tables.proofs.Places.{ArePlaced, other_level, put_same, put_other, at_some, found, added_placed, added_here, added_other, removed_placed, removed_here, removed_other, below_above}
use Rattle.gup_tables.proofs.TreeAdded.{cases_place}
use Rattle.gup_law_tables.specs.Standing.{IsTree}
use Rattle.gup_law_tables.proofs.PathLevels.{split, few, fewer}

pub placed : (place : ℕ → Option Place) → IsTree place → ArePlaced place
placed place tree = record { numbered = tree.numbered; apart = tree.apart }

module _ (v : TreeValue) (tree : IsTree v.place) (page : ℕ) where
  abbrev pub on_it : ℕ → Bool
  on_it level = is_some (table_at v.place (on_path level page))

  -- above a table on the path stands another
  pub up : (level : ℕ) → level < 4 → on_it level ≡ true → on_it (level + 1) ≡ true
  up level lower is = go (table_at v.place (on_path level page)) refl is
    where
      go : (o : Option ℕ) → table_at v.place (on_path level page) ≡ o → is_some o ≡ true → on_it (level + 1) ≡ true
      go None none some = absurd cc
      go (Some table) at some =
          rw (path_above level page lower) at (tree.linked table (on_path level page) ((at_some v.place (on_path level page) table at).1) lower)

  none_there : (o : Option ℕ) → is_some o ≡ false → o ≡ None
  none_there None is = refl
  none_there (Some table) is = absurd cc

  pub lacks_few : lacks v page < 5
  lacks_few = few on_it up

  -- the highest missing place is free, and below another table
  pub highest_missing : 0 < lacks v page → table_at v.place (on_path (lacks v page) page) ≡ None
  highest_missing some = none_there (table_at v.place (on_path (lacks v page) page)) ((split on_it up).0 some)

  pub above_missing : lacks v page < 4 → IsSome (table_at v.place (on_path (lacks v page + 1) page))
  above_missing less = (split on_it up).1 less

-- what stands anywhere now is the new table, or stood there
now_or_then : (place : ℕ → Option Place) (table : ℕ) (p : Place) (other : ℕ) (q : Place) → put table (Some p) place other ≡ Some q → ((other ≡ table) × (q ≡ p)) ⊎ ((other ≢ table) × (place other ≡ Some q))
now_or_then place table p other q is =
    ⊎_elim
    (λ (here : other ≡ table). let own : Some p ≡ Some q = sym (put_same table (Some p) place) ∙ (rw here at is) in let same_p : q ≡ p = cc in inl (here, same_p))
    (λ (away : other ≢ table). inr (away, sym (put_other table (Some p) place other away) ∙ is))
    (cases_eq other table)

-- a table that stood nowhere gets the highest missing place of a page's path
module _ (v : TreeValue) (tree : IsTree v.place) (page table : ℕ) (within : page < page_numbers) (new : v.place table ≡ None) (small : table < table_numbers) (some : 0 < lacks v page) where
  abbrev p : Place
  p = on_path (lacks v page) page

  free : table_at v.place p ≡ None
  free = highest_missing v tree page some

  are : ArePlaced v.place
  are = placed v.place tree

  root_span : (level : ℕ) → level ≡ 4 → page / 512 ^ level ≡ 0
  unfolding page_numbers
  root_span level is = rw is (omega (arith, within))

  pub still_linked : (q : Place) → IsSome (table_at v.place q) → IsSome (table_at (put table (Some p) v.place) q)
  still_linked q is =
      ⊎_elim
      (λ (here : q ≡ p). rw (here, added_here v.place are table p new small free) refl)
      (λ (away : q ≢ p). rw (added_other v.place are table p new small free q away) is)
      (cases_place p q)

  own_linked : lacks v page < 4 → IsSome (table_at (put table (Some p) v.place) (above p))
  own_linked lower = still_linked (above p) (rw (path_above (lacks v page) page lower) (above_missing v tree page lower))

  -- one fewer is missing
  pub lacks_added : (tables room : ℕ) → lacks v page ≡ lacks (record { entry = v.entry; place = put table (Some (on_path (lacks v page) page)) v.place; tables = tables; room = room }) page + 1
  lacks_added tables room =
      fewer (on_it v tree page) (λ level. is_some (table_at (put table (Some p) v.place) (on_path level page))) (lacks v page) some (lacks_few v tree page) ((split (on_it v tree page) (up v tree page)).0 some)
      (rw (added_here v.place are table p new small free) refl)
      (λ level away. ap is_some (added_other v.place are table p new small free (on_path level page) (other_level p (on_path level page) away)))

  pub added : IsTree (put table (Some (on_path (lacks v page) page)) v.place)
  added = record {
    numbered = (added_placed v.place are table p new small free).numbered;
    levels = λ other q is. ⊎_elim (λ h. rw (h.1) (some, omega (arith, lacks_few v tree page))) (λ h. tree.levels other q h.1) (now_or_then v.place table p other q is);
    root = λ other q is top. ⊎_elim (λ h. rw (h.1) (root_span (lacks v page) (rw (h.1) at top))) (λ h. tree.root other q h.1 top) (now_or_then v.place table p other q is);
    apart = (added_placed v.place are table p new small free).apart;
    linked = λ other q is lower. ⊎_elim (λ h. rw (h.1) (own_linked (rw (h.1) at lower))) (λ h. still_linked (above q) (tree.linked other q h.1 lower)) (now_or_then v.place table p other q is);
  }

-- the words of an empty table are 0
pub empty_words : (v : TreeValue) (table i : ℕ) → is_empty v table ≡ true → i < table_words → word_of v table i ≡ 0
empty_words v table i empty within = go (word_of v table i == 0) refl
  where
    go : (zero : Bool) → (word_of v table i == 0) ≡ zero → word_of v table i ≡ 0
    go true is = grind (arith, nat_tests)
    go false is =
        let one : any_below table_words (λ k. not (word_of v table k == 0)) ≡ true = any_below_some table_words (λ k. not (word_of v table k == 0)) i within (rw is refl) in
        absurd (cc (one, empty))

-- what can be taken out has no word that isn't 0, and isn't the root
pub detached_empty : (v : TreeValue) (page table : ℕ) → detachable v page ≡ Some table → (lacks v page < 3) × (is_empty v table ≡ true)
detached_empty v page table is = go (nat_lt (lacks v page) 3) refl is
  where
    empty : (o : Option ℕ) → if_empty v o ≡ Some table → is_empty v table ≡ true
    empty None gone = absurd cc
    empty (Some other) gone = by (is_empty v other) refl gone
      where
        by : (b : Bool) → is_empty v other ≡ b → cond b (Some other) None ≡ Some table → is_empty v table ≡ true
        by true test same = let is_other : other ≡ table = cc in rw is_other at test
        by false test same = absurd cc

    go : (b : Bool) → nat_lt (lacks v page) 3 ≡ b → cond b (if_empty v (table_at v.place (on_path (lacks v page + 1) page))) None ≡ Some table → (lacks v page < 3) × (is_empty v table ≡ true)
    go true test gone = (grind (arith, nat_tests), empty (table_at v.place (on_path (lacks v page + 1) page)) gone)
    go false test gone = absurd cc

-- no table stands below an empty one, so it can be taken out
module _ (v : TreeValue) (tree : IsTree v.place) (page table : ℕ) (is : detachable v page ≡ Some table) where
  abbrev at : Place
  at = on_path (lacks v page + 1) page

  stood : v.place table ≡ Some at
  stood = (stands v page table is).1

  all : ArePlaced v.place
  all = placed v.place tree

  still : (other : ℕ) (q : Place) → put table None v.place other ≡ Some q → v.place other ≡ Some q
  still other q there =
      ⊎_elim
      (λ (here : other ≡ table). let gone : put table None v.place other ≡ None = rw here (put_same table None v.place) in absurd cc)
      (λ (away : other ≢ table). sym (put_other table None v.place other away) ∙ there)
      (cases_eq other table)

  none_below : (other : ℕ) (q : Place) → v.place other ≡ Some q → above q ≡ at → ⊥
  unfolding table_words
  none_below other q stands_there over =
      let level : q.level + 1 ≡ lacks v page + 1 = ap (λ (r : Place). r.level) over in
      let some : 0 < q.level = (tree.levels other q stands_there).0 in
      let upper : ((lacks v page + 1) == 1) ≡ false = grind (arith, nat_tests) in
      let zero : word_of v table (q.span % 512) ≡ 0 = empty_words v table (q.span % 512) ((detached_empty v page table is).1) (omega arith) in
      let here : word_of v table (q.span % 512) ≡ word_here v at (q.span % 512) = ap (λ o. word_where v o (q.span % 512)) stood in
      let down : below at (q.span % 512) ≡ q = ap (λ r. below r (q.span % 512)) (sym over) ∙ below_above q in
      let leads : word_here v at (q.span % 512) ≡ link_to (Some other) = rw upper (ap (λ r. link_to (table_at v.place r)) down ∙ ap link_to (found v.place other q all stands_there)) in
      omega (arith, here, leads, zero)

  -- one more is missing
  pub lacks_removed : (tables room : ℕ) → lacks (record { entry = v.entry; place = put table None v.place; tables = tables; room = room }) page ≡ lacks v page + 1
  lacks_removed tables room =
      fewer (λ level. is_some (table_at (put table None v.place) (on_path level page))) (on_it v tree page) (lacks v page + 1) (omega arith) (omega (arith, (detached_empty v page table is).0))
      (rw (removed_here v.place all table at stood) refl)
      (rw (found v.place table at all stood) refl)
      (λ level away. sym (ap is_some (removed_other v.place all table at stood (on_path level page) (other_level at (on_path level page) away))))

  pub removed : IsTree (put table None v.place)
  removed = record {
    numbered = (removed_placed v.place all table at stood).numbered;
    levels = λ other q there. tree.levels other q (still other q there);
    root = λ other q there. tree.root other q (still other q there);
    apart = (removed_placed v.place all table at stood).apart;
    linked = λ other q there lower.
        rw (removed_other v.place all table at stood (above q) (none_below other q (still other q there))) (tree.linked other q (still other q there) lower);
  }
