-- A page that lacks no table lacks none where a table is added, nor, if it has an entry, where an empty one is taken out.
use Rattle.std.proofs.Common.{◌≡◌, ◌≢◌, ℕ, zero, suc, ◌+◌, ◌*◌, ◌/◌, ◌%◌, ◌^◌, ◌<◌, ◌==◌, Bool, true, false, if◌then◌else◌, is_some, Option, Some, None, refl, ap, ◌∙◌, arith}
use Rattle.std.proofs.lemmas.Bool.Decides.{nat_tests}
use Rattle.gup_base.specs.Packing.{pack_of}
use Rattle.gup_base.specs.declared.entry.Entry.{Entry}
use Rattle.gup_plain.specs.Event.{page_numbers}
use Rattle.gup_plain.specs.Put.{put}
use Rattle.gup_spec_tables.specs.declared.place.Place.{Place}
use Rattle.gup_spec_tables.specs.Tables.{table_numbers, table_words, TreeValue, table_at, on_path, link_to, word_of, word_where, word_here, lacks, detachable}
use Rattle.gup_tables.proofs.Detachable.{stands}
use Rattle.gup_tables.proofs.Paths.{path_under}
use Rattle.gup_tables.proofs.Places.{removed_other}
use Rattle.gup_law_tables.specs.Standing.{IsTree}
use Rattle.gup_law_tables.proofs.Trees.{placed, empty_words, detached_empty, still_linked}

-- does a table stand at this level of the page's path?
abbrev is_there : (ℕ → Option Place) → (page level : ℕ) → Bool
is_there place page level = is_some (table_at place (on_path level page))

none_missing : (b : Bool) → (if b then 0 else 1) < 1 → b ≡ true
none_missing true is = refl
none_missing false is = absurd (omega (arith, is))

-- a page that lacks no table has one at each level
all_there : (v : TreeValue) (page : ℕ) → lacks v page ≡ 0 → (level : ℕ) → level < 4 → is_there v.place page (suc level) ≡ true
all_there v page full zero few = none_missing (is_there v.place page 1) (omega (arith, full))
all_there v page full (suc zero) few = none_missing (is_there v.place page 2) (omega (arith, full))
all_there v page full (suc (suc zero)) few = none_missing (is_there v.place page 3) (omega (arith, full))
all_there v page full (suc (suc (suc zero))) few = none_missing (is_there v.place page 4) (omega (arith, full))
all_there v page full (suc (suc (suc (suc level)))) few = absurd (omega (arith, few))

-- and keeps them where each stays
still_full : (v w : TreeValue) (page : ℕ) → lacks v page ≡ 0 → ((level : ℕ) → level < 4 → is_there v.place page (suc level) ≡ true → is_there w.place page (suc level) ≡ true) → lacks w page ≡ 0
still_full v w page full stay =
    let at : (level : ℕ) → level < 4 → is_there w.place page (suc level) ≡ true = λ level few. stay level few (all_there v page full level few) in
    rw (at 0 (omega arith), at 1 (omega arith), at 2 (omega arith), at 3 (omega arith)) refl

-- a table that stood nowhere gets the highest missing place of another page's path
pub full_added : (v : TreeValue) → IsTree v.place → (page table : ℕ) → page < page_numbers → v.place table ≡ None → table < table_numbers → 0 < lacks v page → (other tables room : ℕ) → lacks v other ≡ 0 → lacks (record { entry = v.entry; place = put table (Some (on_path (lacks v page) page)) v.place; tables = tables; room = room }) other ≡ 0
full_added v tree page table within new small some other tables room full =
    still_full v (record { entry = v.entry; place = put table (Some (on_path (lacks v page) page)) v.place; tables = tables; room = room }) other full
    (λ level few there. still_linked v tree page table within new small some (on_path (suc level) other) there)

-- an empty table is taken out
module _ (v : TreeValue) (tree : IsTree v.place) (page table : ℕ) (is : detachable v page ≡ Some table) (other : ℕ) (e : Entry) (full : lacks v other ≡ 0) (mapped : v.entry other ≡ Some e) where
  abbrev at : Place
  at = on_path (lacks v page + 1) page

  -- the words of the other page's path aren't 0
  link : (level : ℕ) (o : Option ℕ) → table_at v.place (on_path level other) ≡ o → is_some o ≡ true → 0 < link_to (table_at v.place (on_path level other))
  link level None none there = absurd cc
  link level (Some lower) found there = rw found (omega arith)

  word_on : (level : ℕ) → level < 4 → 0 < word_here v (on_path (suc level) other) (other / 512 ^ level % 512)
  word_on zero few =
      let own : 512 * (other / 512 ^ 1) + other / 512 ^ 0 % 512 ≡ other = omega arith in
      let word : word_here v (on_path 1 other) (other / 512 ^ 0 % 512) ≡ pack_of (Some e) = ap (λ k. pack_of (v.entry k)) own ∙ ap pack_of mapped in
      omega (arith, word)
  word_on (suc level) few =
      let upper : (suc (suc level) == 1) ≡ false = grind (arith, nat_tests) in
      let word : word_here v (on_path (suc (suc level)) other) (other / 512 ^ suc level % 512) ≡ link_to (table_at v.place (on_path (suc level) other)) =
      rw upper (ap (λ r. link_to (table_at v.place r)) (path_under (suc level) other few)) in
      omega (arith, word, link (suc level) (table_at v.place (on_path (suc level) other)) refl (all_there v other full level (omega (arith, few))))

  -- so the empty table isn't on it
  off_path : (level : ℕ) → level < 4 → on_path (suc level) other ≢ at
  unfolding table_words
  off_path level few here =
      let i : ℕ = other / 512 ^ level % 512 in
      let none : word_of v table i ≡ 0 = empty_words v table i ((detached_empty v page table is).1) (omega arith) in
      let own : word_of v table i ≡ word_here v at i = ap (λ o. word_where v o i) ((stands v page table is).1) in
      let same : word_here v (on_path (suc level) other) i ≡ word_here v at i = ap (λ r. word_here v r i) here in
      omega (arith, none, own, same, word_on level few)

  pub full_removed : (tables room : ℕ) → lacks (record { entry = v.entry; place = put table None v.place; tables = tables; room = room }) other ≡ 0
  full_removed tables room =
      still_full v (record { entry = v.entry; place = put table None v.place; tables = tables; room = room }) other full
      (λ level few there. ap is_some (removed_other v.place (placed v.place tree) table at ((stands v page table is).1) (on_path (suc level) other) (off_path level few)) ∙ there)
