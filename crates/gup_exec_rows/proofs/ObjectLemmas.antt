-- Objects by page, in a map.
use Rattle.std.proofs.Common.{◌≡◌, ℕ, ◌+◌, ◌-◌, cond, Option, Some, None, refl, ◌∙◌, ap, arith}
use Rattle.std.proofs.Math.Path.{fun_ext}
use Rattle.std.proofs.lemmas.Bool.Decides.{nat_tests}
use Rattle.std.specs.BTreeMap.{BTreeMap, get}
use Rattle.std.specs.Option.{option_map}
use Rattle.std.specs.Ordering.{nat_cmp, is_eq}
use Rattle.gup_base.specs.declared.entry.Rights.{Rights}
use Rattle.gup_plain.specs.Put.{put, spread}
use Rattle.gup_plain.specs.State.{named_or_zero}
use Rattle.gup_exec_parts.proofs.TableLemmas.{updated}
use Rattle.gup_exec_rows.specs.Objects.{numbers, object_of}
use Rattle.gup_exec_rows.proofs.RowLemmas.{through_put}

-- one more object in a map
pub numbers_put : (m n : BTreeMap ℕ ℕ) (k o : ℕ) → ((q : ℕ) → get nat_cmp n q ≡ cond (is_eq (nat_cmp k q)) (Some o) (get nat_cmp m q)) → numbers n ≡ put k o (numbers m)
unfolding numbers
numbers_put m n k o h =
    ap (λ (f : ℕ → Option ℕ). λ q. object_of (f q)) (updated (get nat_cmp m) (get nat_cmp n) k (Some o) h)
    ∙ through_put object_of k (Some o) (get nat_cmp m) o refl

-- a range of none
pub spread_none : {X : Type 0} (first : ℕ) (g f : ℕ → X) → f ≡ spread first 0 g f
spread_none first g f = fun_ext (λ q. grind (arith, nat_tests))

-- the object of the page k after the first
pub object_behind : (object first k : ℕ) → object + k ≡ object + ((first + k) - first)
object_behind object first k = omega arith

pub own_object : (o : Option Rights) (object : ℕ) → object_of (option_map (λ _. object) o) ≡ named_or_zero o object
own_object None object = refl
own_object (Some r) object = refl
