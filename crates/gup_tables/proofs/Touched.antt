-- Which pages have an entry, and how far none has.
use Rattle.std.proofs.Common.{◌≡◌, ℕ, zero, suc, ◌+◌, ◌-◌, ◌*◌, ◌/◌, ◌%◌, ◌^◌, ◌<◌, ◌≤◌, Option, Some, None, IsSome, refl, ap, sym, ◌∙◌, arith}
use Rattle.gup_base.specs.Packing.{pack_of, unpack_of}
use Rattle.gup_base.specs.declared.entry.Entry.{Entry}
use Rattle.gup_spec_tables.specs.declared.place.Place.{Place}
use Rattle.gup_tables.specs.Kept.{IsTree, IsUntouchedUntil}
use Rattle.gup_spec_tables.specs.Tables.{table_at, on_path}
use Rattle.gup_tables.specs.Tree.{entry_at, tree_by}
use Rattle.gup_tables.proofs.Lacks.{none_lower}
use Rattle.gup_tables.proofs.Paths.{path_root}
use Rattle.gup_tables.proofs.Places.{same_place, at_some, found}
use Rattle.gup_tables.proofs.TreeAdded.{placed}

module _ (place : ℕ → Option Place) (word : ℕ → ℕ → ℕ) (root : Option ℕ) (tree : IsTree place word root) (tables room : ℕ) where
  abbrev entry_of : ℕ → Option Entry
  entry_of page = entry_at word (table_at place (on_path 1 page)) page

  no_leaf : (page : ℕ) → table_at place (on_path 1 page) ≡ None → entry_of page ≡ None
  no_leaf page none = ap (λ o. entry_at word o page) none

  -- no number past the last page is one of a page
  pub no_entry_past : (page : ℕ) → 2 ^ 35 ≤ page → entry_of page ≡ None
  no_entry_past page past = go (table_at place (on_path 1 page)) refl
    where
      go : (o : Option ℕ) → table_at place (on_path 1 page) ≡ o → entry_of page ≡ None
      go None is = no_leaf page is
      go (Some table) is =
          let there = (at_some place (on_path 1 page) table is).1 in
          let few = tree.leaf_span table (on_path 1 page) there refl in
          absurd (omega (arith, few, past))

  -- the word of a page is that of its entry
  pub page_word : (table page : ℕ) → place table ≡ Some (on_path 1 page) → word table (page % 512) ≡ pack_of (entry_of page)
  page_word table page there =
      tree.words table (page % 512) (on_path 1 page) there (omega arith)
      ∙ ap (λ g. pack_of (entry_of g)) (omega arith)

  pub leaf_entry : (table page : ℕ) → place table ≡ Some (on_path 1 page) → entry_of page ≡ unpack_of (word table (page % 512))
  leaf_entry table page there = ap (λ o. entry_at word o page) (found place table (on_path 1 page) (placed place word root tree) there)

  pub some_entry : (table page : ℕ) → place table ≡ Some (on_path 1 page) → (word table (page % 512) ≡ 0 → ⊥) → IsSome (entry_of page)
  some_entry table page there some = go (entry_of page) refl
    where
      go : (e : Option Entry) → entry_of page ≡ e → IsSome (entry_of page)
      go None is = absurd (some (page_word table page there ∙ ap pack_of is))
      go (Some e) is = rw is refl

  -- without a root no page has an entry
  pub untouched : (page : ℕ) → page < 2 ^ 35 → table_at place (on_path 4 page) ≡ None → IsUntouchedUntil (tree_by place word tables room) page (2 ^ 35)
  untouched page small none = record {
    further = small;
    none = λ other more less.
        no_leaf other (none_lower place word root tree other 1 3 (omega arith) (ap (table_at place) (path_root other less ∙ sym (path_root page small)) ∙ none));
  }

  -- nor has one below a table that is missing
  same_span : (level page other : ℕ) → 0 < level → level < 4 → page ≤ other → other < (page / 512 ^ level + 1) * 512 ^ level → other / 512 ^ level ≡ page / 512 ^ level
  same_span zero page other some few more less = absurd (omega (arith, some))
  same_span (suc zero) page other some few more less = omega (arith, more, less)
  same_span (suc (suc zero)) page other some few more less = omega (arith, more, less)
  same_span (suc (suc (suc zero))) page other some few more less = omega (arith, more, less)
  same_span (suc (suc (suc (suc level)))) page other some few more less = absurd (omega (arith, few))

  further_on : (level page : ℕ) → level < 4 → page < (page / 512 ^ level + 1) * 512 ^ level
  further_on zero page few = omega arith
  further_on (suc zero) page few = omega arith
  further_on (suc (suc zero)) page few = omega arith
  further_on (suc (suc (suc zero))) page few = omega arith
  further_on (suc (suc (suc (suc level)))) page few = absurd (omega (arith, few))

  pub untouched_span : (level page : ℕ) → 0 < level → level < 4 → table_at place (on_path level page) ≡ None → IsUntouchedUntil (tree_by place word tables room) page ((page / 512 ^ level + 1) * 512 ^ level)
  untouched_span level page some few none = record {
    further = further_on level page few;
    none = λ other more less.
        let same : on_path level other ≡ on_path level page = same_place (on_path level page) (on_path level other) refl (same_span level page other some few more less) in
        no_leaf other
        (none_lower place word root tree other 1 (level - 1) (omega (arith, few, some))
        (ap (λ k. table_at place (on_path k other)) (omega (arith, some)) ∙ ap (table_at place) same ∙ none));
  }

  pub untouched_page : (table page behind : ℕ) → place table ≡ Some (on_path 1 page) → word table (page % 512) ≡ 0 → behind ≡ page + 1 → IsUntouchedUntil (tree_by place word tables room) page behind
  untouched_page table page behind there none next = record {
    further = omega (arith, next);
    none = λ other more less.
        let same : other ≡ page = omega (arith, more, less, next) in
        rw same (leaf_entry table page there ∙ ap unpack_of none);
  }
