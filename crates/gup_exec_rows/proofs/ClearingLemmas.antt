-- The contents that are left when a range of objects is taken out.
use Rattle.std.proofs.Common.{◌≡◌, ℕ, Bool, true, false, cond, not, if◌then◌else◌, List, Option, None, refl, ◌∙◌, ap, arith}
use Rattle.std.proofs.Math.Path.{fun_ext}
use Rattle.std.proofs.lemmas.Bool.Decides.{nat_tests}
use Rattle.std.proofs.lemmas.Map.Entries.{lookup-filter-keys}
use Rattle.std.specs.BTreeMap.{BTreeMap, get, is_at}
use Rattle.std.specs.List.{filter}
use Rattle.std.specs.Map.{lookup}
use Rattle.std.specs.Option.{option_map_or}
use Rattle.std.specs.Ordering.{nat_cmp}
use Rattle.gup_plain.specs.Put.{within, spread}
use Rattle.gup_exec_parts.specs.Words.{word_of}
use Rattle.gup_exec_rows.specs.Clearing.{outside}

abbrev pub is_kept : (first n : ℕ) → ℕ × List ℕ → Bool
is_kept first n e = outside first n e.0

alike-key : (first n k j : ℕ) → is_at (nat_cmp k) j ≡ true → outside first n j ≡ outside first n k
alike-key first n k j h = grind (arith, nat_tests)

left : (first n k : ℕ) (es : List (ℕ × List ℕ)) → lookup (is_at (nat_cmp k)) (filter (is_kept first n) es) ≡ cond (outside first n k) (lookup (is_at (nat_cmp k)) es) None
left first n k es = lookup-filter-keys (is_at (nat_cmp k)) (λ o. outside first n o) (outside first n k) (λ j. alike-key first n k j) es

read : (b : Bool) (o : Option (List ℕ)) → option_map_or word_of (cond (not b) o None) (λ _. 0) ≡ (if b then (λ _. 0) else option_map_or word_of o (λ _. 0))
read true o = refl
read false o = refl

-- objects of the range have zeros then, and the others are as they were
pub cleared : (m new : BTreeMap ℕ (List ℕ)) (first n : ℕ) → new.entries ≡ filter (is_kept first n) m.entries
    → (λ o. option_map_or word_of (get nat_cmp new o) (λ _. 0)) ≡ spread first n (λ _ _. 0) (λ o. option_map_or word_of (get nat_cmp m o) (λ _. 0))
cleared m new first n kept =
    fun_ext
    (λ o.
    let there : get nat_cmp new o ≡ cond (outside first n o) (get nat_cmp m o) None = ap (lookup (is_at (nat_cmp o))) kept ∙ left first n o m.entries in
    ap (λ (x : Option (List ℕ)). option_map_or word_of x (λ _. 0)) there ∙ read (within first n o) (get nat_cmp m o))
