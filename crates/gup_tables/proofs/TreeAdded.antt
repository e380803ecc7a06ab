-- A table is put in at a place that is missing.
use Rattle.std.proofs.Common.{◌≡◌, ◌≢◌, ℕ, ◌+◌, ◌-◌, ◌*◌, ◌/◌, ◌%◌, ◌^◌, ◌<◌, ◌≤◌, ◌==◌, ◌⊎◌, inl, inr, true, false, Option, Some, None, IsSome, refl, ap, sym, ◌∙◌, ⊎_elim, arith}
use Rattle.std.proofs.lemmas.Bool.{cases_eq, cases_lt}
use Rattle.std.proofs.lemmas.Bool.Decides.{nat_tests}
use Rattle.gup_base.specs.Packing.{pack_of, unpack_of}
use Rattle.gup_plain.specs.Put.{put}
use Rattle.gup_spec_tables.specs.declared.place.Place.{Place}
use Rattle.gup_tables.specs.Kept.{IsTree}
use Rattle.gup_spec_tables.specs.Tables.{table_numbers, table_at, on_path, above, below, link_to, word_here}
use Rattle.gup_tables.specs.Tree.{entry_at, tree_by}
use Rattle.gup_tables.proofs.Places.{ArePlaced, no_table, same_place, other_level, put_same, put_other, at_some, found, added_placed, added_here, added_other, below_above, above_below}

pub placed : (place : ℕ → Option Place) (word : ℕ → ℕ → ℕ) (root : Option ℕ) → IsTree place word root → ArePlaced place
placed place word root tree = record { numbered = tree.numbered; apart = tree.apart }

-- two places are the same or not
pub cases_place : (p q : Place) → (q ≡ p) ⊎ (q ≢ p)
cases_place p q =
    ⊎_elim
    (λ (level : q.level ≡ p.level).
    ⊎_elim
    (λ (span : q.span ≡ p.span). inl (same_place p q level span))
    (λ (apart : q.span ≢ p.span). inr (λ e. apart (ap (λ (r : Place). r.span) e)))
    (cases_eq q.span p.span))
    (λ (apart : q.level ≢ p.level). inr (other_level p q apart))
    (cases_eq q.level p.level)

-- the place of a page's entry, from the word that holds it
pub page_place : (span i : ℕ) → i < 512 → (512 * span + i) / 512 ≡ span
page_place span i within = omega arith

pub entry_path : (p : Place) (i : ℕ) → p.level ≡ 1 → i < 512 → on_path 1 (512 * p.span + i) ≡ p
entry_path p i level within = same_place p (on_path 1 (512 * p.span + i)) (sym level) (omega (arith, within))

module _ (place : ℕ → Option Place) (word now : ℕ → ℕ → ℕ) (root : Option ℕ) (tree : IsTree place word root) (blank : (t i : ℕ) → place t ≡ None → word t i ≡ 0) (table : ℕ) (p : Place) (new : place table ≡ None) (small : table < table_numbers) (level : (0 < p.level) × (p.level ≤ 4)) (root_span : p.level ≡ 4 → p.span ≡ 0) (leaf_span : p.level ≡ 1 → p.span < 2 ^ 26) (free : table_at place p ≡ None) (over : ℕ) (leads : p.level < 4 → (place over ≡ Some (above p)) × (now over (p.span % 512) ≡ link_to (Some table))) (same : (t i : ℕ) → (p.level < 4 → t ≡ over → i ≡ p.span % 512 → ⊥) → now t i ≡ word t i) where
  where_now : ℕ → Option Place
  where_now = put table (Some p) place

  are : ArePlaced place
  are = placed place word root tree

  -- the new table's words are 0
  own_zero : (i : ℕ) → now table i ≡ 0
  own_zero i =
      same table i
      (λ lower here at. let there : place table ≡ Some (above p) = rw (← here) at ((leads lower).0) in absurd (cc (there, new)))
      ∙ blank table i new

  entry_found : (page : ℕ) (o : Option ℕ) → table_at place (on_path 1 page) ≡ o → entry_at now o page ≡ entry_at word o page
  entry_found page None is = refl
  entry_found page (Some other) is =
      let there = (at_some place (on_path 1 page) other is).1 in
      ap unpack_of (same other (page % 512)
      (λ lower here at.
      let over_there : Some (above p) ≡ Some (on_path 1 page) = sym ((leads lower).0) ∙ (rw here at there) in
      let level_is : p.level + 1 ≡ 1 = ap (λ (q : Place). q.level) (some_is (above p) (on_path 1 page) over_there) in
      omega (arith, level_is, level.0)))
    where
      some_is : (q r : Place) → Some q ≡ Some r → q ≡ r
      some_is q r is = cc

  pub added_entry : (page : ℕ) → entry_at now (table_at (put table (Some p) place) (on_path 1 page)) page ≡ entry_at word (table_at place (on_path 1 page)) page
  added_entry page =
      ⊎_elim
      (λ (here : on_path 1 page ≡ p).
      rw (here, added_here place are table p new small free, free)
      (ap unpack_of (own_zero (page % 512))))
      (λ (away : on_path 1 page ≢ p).
      rw (added_other place are table p new small free (on_path 1 page) away)
      (entry_found page (table_at place (on_path 1 page)) refl))
      (cases_place p (on_path 1 page))

  -- nothing stood below the new table
  none_below : (i : ℕ) → i < 512 → 1 < p.level → (o : Option ℕ) → table_at place (below p i) ≡ o → table_at place (below p i) ≡ None
  none_below i within upper None is = is
  none_below i within upper (Some other) is =
      let there = (at_some place (below p i) other is).1 in
      let linked : IsSome (table_at place (above (below p i))) = tree.linked other (below p i) there (omega (arith, level.1)) in
      let back : IsSome (table_at place p) = rw (above_below p i level.0 within) at linked in
      absurd (no_table (table_at place p) back free)

  own_word : (i : ℕ) → i < 512 → now table i ≡ word_here (tree_by (put table (Some p) place) now 0 0) p i
  own_word i within =
      ⊎_elim
      (λ (leaf : p.level ≡ 1).
      let test : (p.level == 1) ≡ true = grind (arith, nat_tests) in
      let none : entry_at word (table_at place (on_path 1 (512 * p.span + i))) (512 * p.span + i) ≡ None = rw (entry_path p i leaf within, free) refl in
      rw test (own_zero i ∙ sym (ap pack_of (added_entry (512 * p.span + i) ∙ none))))
      (λ (upper : p.level ≢ 1).
      let test : (p.level == 1) ≡ false = grind (arith, nat_tests) in
      let none : table_at (put table (Some p) place) (below p i) ≡ None =
      added_other place are table p new small free (below p i) (other_level p (below p i) (λ e. omega (arith, e, level.0)))
      ∙ none_below i within (omega (arith, upper, level.0)) (table_at place (below p i)) refl in
      rw test (own_zero i ∙ sym (ap link_to none)))
      (cases_eq p.level 1)

  module _ (other i : ℕ) (q : Place) (there : place other ≡ Some q) (within : i < 512) where
    -- the word that leads to the new table
    link_word : p.level < 4 → other ≡ over → i ≡ p.span % 512 → now other i ≡ word_here (tree_by (put table (Some p) place) now 0 0) q i
    link_word lower here at =
        let own : Some (above p) ≡ Some q = sym ((leads lower).0) ∙ (rw here at there) in
        let is : q ≡ above p = sym (some_is (above p) q own) in
        let test : ((p.level + 1) == 1) ≡ false = grind (arith, nat_tests, level.0) in
        rw (is, at, here, test, below_above p, added_here place are table p new small free) ((leads lower).1)
      where
        some_is : (q r : Place) → Some q ≡ Some r → q ≡ r
        some_is q r is = cc

    other_word : (p.level < 4 → other ≡ over → i ≡ p.span % 512 → ⊥) → now other i ≡ word_here (tree_by (put table (Some p) place) now 0 0) q i
    other_word apart =
        same other i apart ∙ tree.words other i q there within
        ∙ ⊎_elim
        (λ (leaf : q.level ≡ 1).
        let test : (q.level == 1) ≡ true = grind (arith, nat_tests) in
        rw test (sym (ap pack_of (added_entry (512 * q.span + i)))))
        (λ (upper : q.level ≢ 1).
        let test : (q.level == 1) ≡ false = grind (arith, nat_tests) in
        let q_level = tree.levels other q there in
        rw test (sym (ap link_to (added_other place are table p new small free (below q i)
        (λ e.
        let is : above p ≡ q = ap above (sym e) ∙ above_below q i q_level.0 within in
        let lower : p.level < 4 = let below_level : q.level - 1 ≡ p.level = ap (λ (r : Place). r.level) e in omega (arith, below_level, q_level) in
        let at : i ≡ p.span % 512 = let below_span : 512 * q.span + i ≡ p.span = ap (λ (r : Place). r.span) e in omega (arith, below_span, within) in
        apart lower (tree.apart other over q there ((leads lower).0 ∙ ap Some is)) at)))))
        (cases_eq q.level 1)

    any_word : now other i ≡ word_here (tree_by (put table (Some p) place) now 0 0) q i
    any_word =
        ⊎_elim
        (λ (lower : p.level < 4).
        ⊎_elim
        (λ (here : other ≡ over).
        ⊎_elim (λ (at : i ≡ p.span % 512). link_word lower here at) (λ (away : i ≢ p.span % 512). other_word (λ l h a. away a)) (cases_eq i (p.span % 512)))
        (λ (away : other ≢ over). other_word (λ l h a. away h))
        (cases_eq other over))
        (λ (top : 4 ≤ p.level). other_word (λ l h a. omega (arith, top, l)))
        (cases_lt p.level 4)

  -- what stands anywhere now is the new table, or stood there
  now_or_then : (other : ℕ) (q : Place) → put table (Some p) place other ≡ Some q → ((other ≡ table) × (q ≡ p)) ⊎ ((other ≢ table) × (place other ≡ Some q))
  now_or_then other q is =
      ⊎_elim
      (λ (here : other ≡ table). let own : Some p ≡ Some q = sym (put_same table (Some p) place) ∙ (rw here at is) in let same_p : q ≡ p = cc in inl (here, same_p))
      (λ (away : other ≢ table). inr (away, sym (put_other table (Some p) place other away) ∙ is))
      (cases_eq other table)

  pub added_tree : (root_now : Option ℕ) → root_now ≡ table_at (put table (Some p) place) (on_path 4 0) → IsTree (put table (Some p) place) now root_now
  added_tree root_now root_is = record {
    root_there = root_is;
    numbered = (added_placed place are table p new small free).numbered;
    levels = λ other q is. ⊎_elim (λ h. rw (h.1) level) (λ h. tree.levels other q h.1) (now_or_then other q is);
    root_span = λ other q is top. ⊎_elim (λ h. rw (h.1) (root_span (rw (h.1) at top))) (λ h. tree.root_span other q h.1 top) (now_or_then other q is);
    leaf_span = λ other q is leaf. ⊎_elim (λ h. rw (h.1) (leaf_span (rw (h.1) at leaf))) (λ h. tree.leaf_span other q h.1 leaf) (now_or_then other q is);
    apart = (added_placed place are table p new small free).apart;
    linked = λ other q is lower. ⊎_elim (λ h. rw (h.1) (own_linked (rw (h.1) at lower))) (λ h. still_linked (above q) (tree.linked other q h.1 lower)) (now_or_then other q is);
    words = λ other i q is within. ⊎_elim (λ h. rw (h.0, h.1) (own_word i within)) (λ h. any_word other i q h.1 within) (now_or_then other q is);
  }
    where
      still_linked : (q : Place) → IsSome (table_at place q) → IsSome (table_at (put table (Some p) place) q)
      still_linked q some =
          ⊎_elim
          (λ (here : q ≡ p). rw (here, added_here place are table p new small free) refl)
          (λ (away : q ≢ p). rw (added_other place are table p new small free q away) some)
          (cases_place p q)

      own_linked : p.level < 4 → IsSome (table_at (put table (Some p) place) (above p))
      own_linked lower =
          rw (added_other place are table p new small free (above p) (other_level p (above p) (λ e. omega (arith, e))), found place over (above p) are ((leads lower).0)) refl
