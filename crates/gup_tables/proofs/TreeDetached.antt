-- A table whose words are 0, but for the root, is taken out.
use Rattle.std.proofs.Common.{◌≡◌, ◌≢◌, ℕ, ◌+◌, ◌*◌, ◌%◌, ◌<◌, ◌≤◌, ◌==◌, true, false, Option, Some, None, refl, ap, sym, ◌∙◌, ⊎_elim, arith}
use Rattle.std.proofs.lemmas.Bool.{cases_eq}
use Rattle.std.proofs.lemmas.Bool.Decides.{nat_tests}
use Rattle.gup_base.specs.Packing.{pack_of, unpack_of}
use Rattle.gup_plain.specs.Put.{put, put2}
use Rattle.gup_spec_tables.specs.declared.place.Place.{Place}
use Rattle.gup_tables.specs.Kept.{IsTree}
use Rattle.gup_spec_tables.specs.Tables.{table_at, on_path, above, below, link_to, word_here}
use Rattle.gup_tables.specs.Tree.{entry_at, tree_by}
use Rattle.gup_tables.proofs.Places.{ArePlaced, other_level, put_same, put_other, put2_same, put2_other, at_some, found, removed_placed, removed_here, removed_other, below_above, above_below}
use Rattle.gup_tables.proofs.TreeAdded.{placed, cases_place}

module _ (place : ℕ → Option Place) (word : ℕ → ℕ → ℕ) (root : Option ℕ) (tree : IsTree place word root) (table over : ℕ) (p : Place) (there : place table ≡ Some p) (lower : p.level < 4) (leads : place over ≡ Some (above p)) (zero : (i : ℕ) → i < 512 → word table i ≡ 0) where
  abbrev pub cut : ℕ → ℕ → ℕ
  cut = put2 over (p.span % 512) 0 word

  are : ArePlaced place
  are = placed place word root tree

  level : (0 < p.level) × (p.level ≤ 4)
  level = tree.levels table p there

  some_level : (q r : Place) → Some q ≡ Some r → q.level ≡ r.level
  some_level q r is = let same : q ≡ r = cc in ap (λ (s : Place). s.level) same

  entry_still : (page : ℕ) (o : Option ℕ) → table_at place (on_path 1 page) ≡ o → entry_at cut o page ≡ entry_at word o page
  entry_still page None is = refl
  entry_still page (Some other) is =
      ap unpack_of (put2_other over (p.span % 512) 0 word other (page % 512)
      (λ same at.
      let level_is : 1 ≡ p.level + 1 = some_level (on_path 1 page) (above p) (sym ((at_some place (on_path 1 page) other is).1) ∙ ap place same ∙ leads) in
      omega (arith, level_is, level.0)))

  -- no page's entry changes
  pub detached_entry : (page : ℕ) → entry_at cut (table_at (put table None place) (on_path 1 page)) page ≡ entry_at word (table_at place (on_path 1 page)) page
  detached_entry page =
      ⊎_elim
      (λ (here : on_path 1 page ≡ p).
      rw (here, removed_here place are table p there, found place table p are there)
      (sym (ap unpack_of (zero (page % 512) (omega arith)))))
      (λ (away : on_path 1 page ≢ p).
      rw (removed_other place are table p there (on_path 1 page) away)
      (entry_still page (table_at place (on_path 1 page)) refl))
      (cases_place p (on_path 1 page))

  still : (other : ℕ) (q : Place) → put table None place other ≡ Some q → place other ≡ Some q
  still other q is =
      ⊎_elim
      (λ (here : other ≡ table). let gone : put table None place other ≡ None = rw here (put_same table None place) in absurd cc)
      (λ (away : other ≢ table). sym (put_other table None place other away) ∙ is)
      (cases_eq other table)

  -- no table stands below it
  none_below : (other : ℕ) (q : Place) → place other ≡ Some q → above q ≡ p → ⊥
  none_below other q stands is =
      let q_level = tree.levels other q stands in
      let upper : p.level ≡ q.level + 1 = sym (ap (λ (r : Place). r.level) is) in
      let test : (p.level == 1) ≡ false = grind (arith, nat_tests, upper, q_level.0) in
      let word_is = tree.words table (q.span % 512) p there (omega arith) in
      let leads_to : word table (q.span % 512) ≡ link_to (table_at place (below p (q.span % 512))) = rw test at word_is in
      let down : below p (q.span % 512) ≡ q = ap (λ r. below r (q.span % 512)) (sym is) ∙ below_above q in
      let linked : word table (q.span % 512) ≡ link_to (Some other) = leads_to ∙ ap (λ r. link_to (table_at place r)) down ∙ ap link_to (found place other q are stands) in
      let none = zero (q.span % 512) (omega arith) in
      omega (arith, linked, none)

  detached_word : (other i : ℕ) (q : Place) → put table None place other ≡ Some q → i < 512 → cut other i ≡ word_here (tree_by (put table None place) cut 0 0) q i
  detached_word other i q is within =
      let stands = still other q is in
      let q_level = tree.levels other q stands in
      let old = tree.words other i q stands within in
      ⊎_elim
      (λ (leaf : q.level ≡ 1).
      let test : (q.level == 1) ≡ true = grind (arith, nat_tests) in
      put2_other over (p.span % 512) 0 word other i
      (λ same at.
      let level_is : q.level ≡ p.level + 1 = some_level q (above p) (sym stands ∙ ap place same ∙ leads) in
      omega (arith, level_is, leaf, level.0))
      ∙ rw test ((rw test at old) ∙ ap pack_of (sym (detached_entry (512 * q.span + i)))))
      (λ (upper : q.level ≢ 1).
      let test : (q.level == 1) ≡ false = grind (arith, nat_tests) in
      rw test
      (⊎_elim
      (λ (down : below q i ≡ p).
      let q_is : above p ≡ q = ap above (sym down) ∙ above_below q i q_level.0 within in
      let same : other ≡ over = tree.apart other over q stands (leads ∙ ap Some q_is) in
      let at : i ≡ p.span % 512 = let span : 512 * q.span + i ≡ p.span = ap (λ (r : Place). r.span) down in omega (arith, span, within) in
      rw (same, at) (put2_same over (p.span % 512) 0 word)
      ∙ sym (ap link_to (ap (table_at (put table None place)) down ∙ removed_here place are table p there)))
      (λ (away : below q i ≢ p).
      put2_other over (p.span % 512) 0 word other i
      (λ same at.
      let q_is : q ≡ above p = some_is q (above p) (sym stands ∙ ap place same ∙ leads) in
      away (ap (λ r. below r i) q_is ∙ ap (below (above p)) at ∙ below_above p))
      ∙ (rw test at old)
      ∙ sym (ap link_to (removed_other place are table p there (below q i) away)))
      (cases_place p (below q i))))
      (cases_eq q.level 1)
    where
      some_is : (q r : Place) → Some q ≡ Some r → q ≡ r
      some_is q r is = cc

  pub detached_tree : IsTree (put table None place) cut root
  detached_tree = record {
    root_there = tree.root_there ∙ sym (removed_other place are table p there (on_path 4 0) (other_level p (on_path 4 0) (λ e. omega (arith, e, lower))));
    numbered = (removed_placed place are table p there).numbered;
    levels = λ other q is. tree.levels other q (still other q is);
    root_span = λ other q is. tree.root_span other q (still other q is);
    leaf_span = λ other q is. tree.leaf_span other q (still other q is);
    apart = (removed_placed place are table p there).apart;
    linked = λ other q is less.
        rw (removed_other place are table p there (above q) (none_below other q (still other q is))) (tree.linked other q (still other q is) less);
    words = λ other i q is within. detached_word other i q is within;
  }
