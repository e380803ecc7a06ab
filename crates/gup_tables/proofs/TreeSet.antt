-- A page's entry is written.
use Rattle.std.proofs.Common.{◌≡◌, ◌≢◌, ℕ, ◌+◌, ◌*◌, ◌/◌, ◌%◌, ◌<◌, ◌==◌, Bool, true, false, cond, Option, Some, None, refl, ap, sym, ◌∙◌, ⊎_elim, arith}
use Rattle.std.specs.Option.{ForSome}
use Rattle.std.proofs.lemmas.Bool.{cases_eq}
use Rattle.std.proofs.lemmas.Bool.Decides.{nat_tests}
use Rattle.gup_base.specs.Packing.{pack_of, unpack_of}
use Rattle.gup_base.specs.declared.entry.Entry.{Entry}
use Rattle.gup_plain.specs.Put.{put, put2}
use Rattle.gup_spec_tables.specs.declared.place.Place.{Place}
use Rattle.gup_tables.specs.Kept.{IsTree}
use Rattle.gup_spec_tables.specs.Tables.{table_at, on_path, word_here}
use Rattle.gup_tables.specs.Tree.{entry_at, tree_by}
use Rattle.gup_tables.proofs.Places.{put_same, put_other, put2_same, put2_other, at_some, found}
use Rattle.gup_tables.proofs.TreeAdded.{placed, entry_path}

-- what was packed is read back
unpacked : (frame bits : ℕ) (writable : Bool) → frame < 16384 → bits ≡ cond writable 2 0 → unpack_of (1 + bits + frame * 4096) ≡ Some (record { frame = frame; writable = writable })
unpacked frame bits true few is =
    let odd : ((1 + bits + frame * 4096) % 2 == 0) ≡ false = grind (arith, nat_tests, is) in
    let own : (1 + bits + frame * 4096) / 4096 % 16384 ≡ frame = omega (arith, is, few) in
    let may_write : ((1 + bits + frame * 4096) / 2 % 2 == 1) ≡ true = grind (arith, nat_tests, is) in
    rw (odd, own, may_write) refl
unpacked frame bits false few is =
    let odd : ((1 + bits + frame * 4096) % 2 == 0) ≡ false = grind (arith, nat_tests, is) in
    let own : (1 + bits + frame * 4096) / 4096 % 16384 ≡ frame = omega (arith, is, few) in
    let may_write : ((1 + bits + frame * 4096) / 2 % 2 == 1) ≡ false = grind (arith, nat_tests, is) in
    rw (odd, own, may_write) refl

pub unpack-pack : (e : Option Entry) → ForSome e (λ entry. entry.frame < 16384) → unpack_of (pack_of e) ≡ e
unpack-pack None few = refl
unpack-pack (Some e) few = unpacked e.frame (cond e.writable 2 0) e.writable (few e refl) refl

module _ (place : ℕ → Option Place) (word : ℕ → ℕ → ℕ) (root : Option ℕ) (tree : IsTree place word root) (table page : ℕ) (there : place table ≡ Some (on_path 1 page)) (entry : Option Entry) (packs : unpack_of (pack_of entry) ≡ entry) where
  abbrev pub written : ℕ → ℕ → ℕ
  written = put2 table (page % 512) (pack_of entry) word

  here : table_at place (on_path 1 page) ≡ Some table
  here = found place table (on_path 1 page) (placed place word root tree) there

  -- the entry of any page
  pub set_entry : (other : ℕ) → entry_at written (table_at place (on_path 1 other)) other ≡ put page entry (λ p. entry_at word (table_at place (on_path 1 p)) p) other
  set_entry other =
      ⊎_elim
      (λ (same : other ≡ page).
      rw (same, put_same page entry (λ p. entry_at word (table_at place (on_path 1 p)) p), here)
      (ap unpack_of (put2_same table (page % 512) (pack_of entry) word) ∙ packs))
      (λ (away : other ≢ page).
      rw (put_other page entry (λ p. entry_at word (table_at place (on_path 1 p)) p) other away)
      (go away (table_at place (on_path 1 other)) refl))
      (cases_eq other page)
    where
      span_is : (p q : ℕ) → Some (on_path 1 p) ≡ Some (on_path 1 q) → p / 512 ≡ q / 512
      span_is p q is = let same : on_path 1 p ≡ on_path 1 q = cc in ap (λ (r : Place). r.span) same

      go : other ≢ page → (o : Option ℕ) → table_at place (on_path 1 other) ≡ o → entry_at written o other ≡ entry_at word o other
      go away None is = refl
      go away (Some t) is =
          ap unpack_of (put2_other table (page % 512) (pack_of entry) word t (other % 512)
          (λ own at.
          let span : other / 512 ≡ page / 512 = span_is other page (sym ((at_some place (on_path 1 other) t is).1) ∙ ap place own ∙ there) in
          away (omega (arith, span, at))))

  set_word : (t i : ℕ) (p : Place) → place t ≡ Some p → i < 512 → written t i ≡ word_here (tree_by place written 0 0) p i
  set_word t i p stands within =
      ⊎_elim
      (λ (leaf : p.level ≡ 1).
      let test : (p.level == 1) ≡ true = grind (arith, nat_tests) in
      let old = tree.words t i p stands within in
      let was : word t i ≡ pack_of (entry_at word (table_at place (on_path 1 (512 * p.span + i))) (512 * p.span + i)) = rw test at old in
      rw test
      (⊎_elim
      (λ (own : 512 * p.span + i ≡ page).
      let same : t ≡ table = tree.apart t table (on_path 1 page) (stands ∙ ap Some (sym (entry_path p i leaf within) ∙ ap (on_path 1) own)) there in
      let at : i ≡ page % 512 = omega (arith, own, within) in
      rw (same, at) (put2_same table (page % 512) (pack_of entry) word)
      ∙ ap pack_of (sym (put_same page entry (λ q. entry_at word (table_at place (on_path 1 q)) q)) ∙ ap (put page entry (λ q. entry_at word (table_at place (on_path 1 q)) q)) (sym own) ∙ sym (set_entry (512 * p.span + i))))
      (λ (away : 512 * p.span + i ≢ page).
      put2_other table (page % 512) (pack_of entry) word t i
      (λ same at.
      let own : Some p ≡ Some (on_path 1 page) = sym stands ∙ ap place same ∙ there in
      let span : p.span ≡ page / 512 = some_span p (on_path 1 page) own in
      away (omega (arith, span, at)))
      ∙ was
      ∙ ap pack_of (sym (put_other page entry (λ q. entry_at word (table_at place (on_path 1 q)) q) (512 * p.span + i) away) ∙ sym (set_entry (512 * p.span + i))))
      (cases_eq (512 * p.span + i) page)))
      (λ (upper : p.level ≢ 1).
      let test : (p.level == 1) ≡ false = grind (arith, nat_tests) in
      let old = tree.words t i p stands within in
      put2_other table (page % 512) (pack_of entry) word t i
      (λ same at.
      let own : Some p ≡ Some (on_path 1 page) = sym stands ∙ ap place same ∙ there in
      upper (some_level p (on_path 1 page) own))
      ∙ rw test (rw test at old))
      (cases_eq p.level 1)
    where
      some_span : (p q : Place) → Some p ≡ Some q → p.span ≡ q.span
      some_span p q is = let same : p ≡ q = cc in ap (λ (r : Place). r.span) same

      some_level : (p q : Place) → Some p ≡ Some q → p.level ≡ q.level
      some_level p q is = let same : p ≡ q = cc in ap (λ (r : Place). r.level) same

  pub set_tree : IsTree place written root
  set_tree = record {
    root_there = tree.root_there;
    numbered = tree.numbered;
    levels = tree.levels;
    root_span = tree.root_span;
    leaf_span = tree.leaf_span;
    apart = tree.apart;
    linked = tree.linked;
    words = set_word;
  }
