-- Tables that have no word but 0, and the one of a page's path that can be taken out.
use Rattle.std.proofs.Common.{◌≡◌, ℕ, ◌+◌, ◌<◌, ◌==◌, nat_lt, if◌then◌else◌, not, Bool, true, false, Option, Some, None, ap, sym, ◌∙◌, arith}
use Rattle.std.proofs.lemmas.Bool.Decides.{nat_tests}
use Rattle.gup_maps.proofs.Ranges.{any_below_none, any_below_some}
use Rattle.gup_plain.specs.Denial.{any_below}
use Rattle.gup_spec_tables.specs.declared.place.Place.{Place}
use Rattle.gup_spec_tables.specs.Tables.{TreeValue, table_words, table_at, on_path, word_here, word_where, is_empty, if_empty, lacks, detachable}
use Rattle.gup_tables.proofs.Places.{at_some}

within_words : (i : ℕ) → i < table_words → i < 512
unfolding table_words
within_words i less = less

words_within : (i : ℕ) → i < 512 → i < table_words
unfolding table_words
words_within i less = less

-- a table with a word that isn't 0 is not empty
pub not_empty : (test : ℕ → Bool) (i : ℕ) → i < 512 → test i ≡ true → false ≡ not (any_below table_words test)
not_empty test i less some = ap not (sym (any_below_some table_words test i (words_within i less) some))

-- and one without is
pub all_empty : (test : ℕ → Bool) → ((j : ℕ) → j < 512 → test j ≡ false) → true ≡ not (any_below table_words test)
all_empty test none = ap not (sym (any_below_none table_words test (λ k less. none k (within_words k less))))

-- the table that stands at the lowest place of the path can be taken out where it is empty
pub detached_at : (v : TreeValue) (page level table : ℕ) (empty : Bool) → level ≡ lacks v page → level < 3 → Some table ≡ table_at v.place (on_path (level + 1) page) → empty ≡ not (any_below table_words (λ i. not (word_here v (on_path (level + 1) page) i == 0))) → (if empty then Some table else None) ≡ detachable v page
detached_at v page level table empty is low found told =
    let D : ℕ → Option ℕ = λ n. if nat_lt n 3 then if_empty v (table_at v.place (on_path (n + 1) page)) else None in
    let less : nat_lt level 3 ≡ true = grind (arith, nat_tests) in
    let there : v.place table ≡ Some (on_path (level + 1) page) = (at_some v.place (on_path (level + 1) page) table (sym found)).1 in
    let words : is_empty v table ≡ empty = ap (λ (o : Option Place). not (any_below table_words (λ i. not (word_where v o i == 0)))) there ∙ sym told in
    sym
    (ap D (sym is)
    ∙ ap (λ (b : Bool). if b then if_empty v (table_at v.place (on_path (level + 1) page)) else None) less
    ∙ ap (λ (o : Option ℕ). if_empty v o) (sym found)
    ∙ ap (λ (b : Bool). if b then Some table else None) words)
