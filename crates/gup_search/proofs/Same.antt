-- What `==` tells of facts, of tells, of rows and of ends.
use Rattle.std.proofs.Common.{◌≡◌, ℕ, ◌==◌, nat_eq, Bool, true, false, ◌&&◌, List, [], ◌∷◌, Option, refl, sym, ap, subst, ◌∙◌, arith, rules}
use Rattle.std.proofs.lemmas.Bool.Decides.{nat_tests}
use lib.Pointwise.{pointwise}
use mathlib.Core.Bool.{beq}
use Rattle.std.specs.Option.{option_eq}
use Rattle.gup_image.specs.declared.fact.Fact.{Fact}
use Rattle.gup_image.specs.declared.fact.Fact.TheVariants as facts
use Rattle.gup_tables.specs.declared.path.Path.{Path}
use Rattle.gup_tables.specs.contracts.path.PathPartialEq.TheImpl as path_eq
use Rattle.gup_op_base.specs.declared.jobs.JobPlace.{JobPlace}
use Rattle.gup_op_base.specs.declared.jobs.JobPlace.TheVariants as places
use Rattle.gup_op_base.specs.declared.jobs.WalkPlace.{WalkPlace}
use Rattle.gup_op_base.specs.declared.jobs.WalkPlace.TheVariants as steps
use Rattle.gup_op_base.specs.contracts.jobs.WalkPlacePartialEq.TheImpl as walk_eq
use Rattle.gup_op_base.specs.contracts.jobs.JobPlacePartialEq.TheImpl as place_eq
use Rattle.gup_op_waits.specs.declared.births.Birth.{Birth}
use Rattle.gup_op_waits.specs.contracts.births.BirthPartialEq.TheImpl as birth_eq
use Rattle.gup_image.specs.contracts.fact.FactPartialEq.TheImpl as fact_eq
use Rattle.gup_plain.specs.declared.note.Waiting.{Waiting}
use Rattle.gup_plain.specs.contracts.note.WaitingPartialEq.TheImpl as waiting_eq
use Rattle.gup_spec_orders.specs.declared.told.Tell.{Tell}
use Rattle.gup_spec_orders.specs.declared.told.Told.{Told}
use Rattle.gup_spec_orders.specs.contracts.told.TellPartialEq.TheImpl as tell_eq
use Rattle.gup_spec_orders.specs.contracts.told.ToldPartialEq.TheImpl as told_eq
use Rattle.gup_search.specs.declared.states.Row.{Row}
use Rattle.gup_search.specs.contracts.states.RowPartialEq.TheImpl as row_eq

both : (b c : Bool) → (b && c) ≡ true → (b ≡ true) × (c ≡ true)
both true true h = (refl, refl)
both true false h = absurd (cc)
both false c h = absurd (cc)

alike : (n k : ℕ) → (n == k) ≡ true → n ≡ k
alike n k h = grind (arith, nat_tests)

flag_same : (b c : Bool) → beq b c ≡ true → b ≡ c
flag_same true true h = refl
flag_same true false h = absurd (cc)
flag_same false true h = absurd (cc)
flag_same false false h = refl

lists_same : {A : Type 0} (E : A → A → Bool) → ((x y : A) → E x y ≡ true → x ≡ y) → (xs ys : List A) → pointwise E xs ys ≡ true → xs ≡ ys
lists_same E same [] [] h = refl
lists_same E same [] (y ∷ ys) h = absurd (cc)
lists_same E same (x ∷ xs) [] h = absurd (cc)
lists_same E same (x ∷ xs) (y ∷ ys) h =
    let w = both (E x y) (pointwise E xs ys) h in
    ap (λ z. z ∷ xs) (same x y w.0) ∙ ap (λ zs. y ∷ zs) (lists_same E same xs ys w.1)

birth_same : (a b : Birth) → birth_eq.eq-value.it a b ≡ true → a ≡ b
birth_same a b h = search rules

path_same : (a b : Path) → path_eq.eq-value.it a b ≡ true → a ≡ b
path_same a b h = search rules

walk_same : (a b : WalkPlace) → walk_eq.eq-value.it a b ≡ true → a ≡ b
walk_same steps.Entered b h = search rules
walk_same steps.Ready b h = search rules
walk_same (steps.Read path entry) b h = search (rules, path_same)
walk_same (steps.Grabbed path entry) b h = search (rules, path_same)
walk_same (steps.Rechecked entry) b h = search rules
walk_same (steps.Differed frame) b h = search rules
walk_same steps.Refused b h = search rules
walk_same steps.Stopped b h = search rules
walk_same steps.Dropping b h = search rules

place_same : (a b : JobPlace) → place_eq.eq-value.it a b ≡ true → a ≡ b
place_same places.Unbegun b h = search rules
place_same (places.From page) b h = search rules
place_same (places.At page) b h = search rules
place_same (places.Wanting page) b h = search rules
place_same (places.Copying word to page) b h = search rules
place_same (places.Cleared entry page) b h = search rules
place_same (places.Single entry page) b h = search rules
place_same (places.Shared entry page count) b h = search rules
place_same (places.Walking place page sequence) b h = search (rules, walk_same)

holder_same : (a b : Option ℕ) → option_eq (λ (x y : ℕ). x == y) a b ≡ true → a ≡ b
holder_same a b h = search rules

stands_same : (a f n : ℕ) (j : JobPlace) (a' f' n' : ℕ) (j' : JobPlace) → fact_eq.eq-value.it (facts.Stands a f n j) (facts.Stands a' f' n' j') ≡ true → facts.Stands a f n j ≡ facts.Stands a' f' n' j'
stands_same a f n j a' f' n' j' h =
    let w = both (a == a') _ h in
    let x = both (f == f') _ w.1 in
    let y = both (n == n') _ x.1 in
    let one : a ≡ a' = alike a a' w.0 in
    let two : f ≡ f' = alike f f' x.0 in
    let three : n ≡ n' = alike n n' y.0 in
    let four : j ≡ j' = place_same j j' y.1 in
    cc

process_same : (p : ℕ) (birth : Birth) (had : Bool) (s t : Option ℕ) (n q m : ℕ) (p' : ℕ) (birth' : Birth) (had' : Bool) (s' t' : Option ℕ) (n' q' m' : ℕ) → fact_eq.eq-value.it (facts.Process p birth had s t n q m) (facts.Process p' birth' had' s' t' n' q' m') ≡ true → facts.Process p birth had s t n q m ≡ facts.Process p' birth' had' s' t' n' q' m'
process_same p birth had s t n q m p' birth' had' s' t' n' q' m' h =
    let w = both (p == p') _ h in
    let x = both (birth_eq.eq-value.it birth birth') _ w.1 in
    let y = both (beq had had') _ x.1 in
    let z = both (option_eq (λ (i j : ℕ). i == j) s s') _ y.1 in
    let v = both (option_eq (λ (i j : ℕ). i == j) t t') _ z.1 in
    let r = both (n == n') _ v.1 in
    let i = both (q == q') _ r.1 in
    let one : p ≡ p' = alike p p' w.0 in
    let two : birth ≡ birth' = birth_same birth birth' x.0 in
    let three : had ≡ had' = flag_same had had' y.0 in
    let four : s ≡ s' = holder_same s s' z.0 in
    let five : t ≡ t' = holder_same t t' v.0 in
    let six : n ≡ n' = alike n n' r.0 in
    let seven : q ≡ q' = alike q q' i.0 in
    let eight : m ≡ m' = alike m m' i.1 in
    cc

-- One variant at a time: `search` gives up at all of them at once.
pub fact_same : (a b : Fact) → fact_eq.eq-value.it a b ≡ true → a ≡ b
fact_same (facts.Zones movable normal) b h = search rules
fact_same (facts.Frame mark frame count) b h = search rules
fact_same (facts.Word frame word value) b h = search rules
fact_same (facts.Process proc birth has_pinned structure table pages sequence walks) (facts.Zones k l) h = absurd (cc)
fact_same (facts.Process proc birth has_pinned structure table pages sequence walks) (facts.Frame k l o) h = absurd (cc)
fact_same (facts.Process proc birth has_pinned structure table pages sequence walks) (facts.Word k l o) h = absurd (cc)
fact_same (facts.Process proc birth has_pinned structure table pages sequence walks) (facts.Process proc' birth' has_pinned' structure' table' pages' sequence' walks') h = process_same proc birth has_pinned structure table pages sequence walks proc' birth' has_pinned' structure' table' pages' sequence' walks' h
fact_same (facts.Process proc birth has_pinned structure table pages sequence walks) (facts.Page k l o u) h = absurd (cc)
fact_same (facts.Process proc birth has_pinned structure table pages sequence walks) (facts.Used k) h = absurd (cc)
fact_same (facts.Process proc birth has_pinned structure table pages sequence walks) (facts.Table k l o u) h = absurd (cc)
fact_same (facts.Process proc birth has_pinned structure table pages sequence walks) (facts.Retired k l o) h = absurd (cc)
fact_same (facts.Process proc birth has_pinned structure table pages sequence walks) (facts.Pin k l o u) h = absurd (cc)
fact_same (facts.Process proc birth has_pinned structure table pages sequence walks) (facts.Pinned k l o) h = absurd (cc)
fact_same (facts.Process proc birth has_pinned structure table pages sequence walks) (facts.Got k l o) h = absurd (cc)
fact_same (facts.Process proc birth has_pinned structure table pages sequence walks) (facts.Gone k) h = absurd (cc)
fact_same (facts.Process proc birth has_pinned structure table pages sequence walks) (facts.Taken k l o) h = absurd (cc)
fact_same (facts.Process proc birth has_pinned structure table pages sequence walks) (facts.Stored k l o) h = absurd (cc)
fact_same (facts.Process proc birth has_pinned structure table pages sequence walks) (facts.Filled k l o u) h = absurd (cc)
fact_same (facts.Process proc birth has_pinned structure table pages sequence walks) (facts.Stands actor' far' answered' job') h = absurd (cc)
fact_same (facts.Page proc rights entry page) b h = search rules
fact_same (facts.Used table) b h = search rules
fact_same (facts.Table proc level span table) b h = search rules
fact_same (facts.Retired proc place table) b h = search rules
fact_same (facts.Pin actor given write handle) b h = search rules
fact_same (facts.Pinned place frame handle) b h = search rules
fact_same (facts.Got actor frame handle) b h = search rules
fact_same (facts.Gone handle) b h = search rules
fact_same (facts.Taken actor place frame) b h = search rules
fact_same (facts.Stored actor slot value) b h = search rules
fact_same (facts.Filled mirror proc frame page) b h = search rules
fact_same (facts.Stands actor far answered job) (facts.Zones k l) h = absurd (cc)
fact_same (facts.Stands actor far answered job) (facts.Frame k l o) h = absurd (cc)
fact_same (facts.Stands actor far answered job) (facts.Word k l o) h = absurd (cc)
fact_same (facts.Stands actor far answered job) (facts.Process proc' birth' has_pinned' structure' table' pages' sequence' walks') h = absurd (cc)
fact_same (facts.Stands actor far answered job) (facts.Page k l o u) h = absurd (cc)
fact_same (facts.Stands actor far answered job) (facts.Used k) h = absurd (cc)
fact_same (facts.Stands actor far answered job) (facts.Table k l o u) h = absurd (cc)
fact_same (facts.Stands actor far answered job) (facts.Retired k l o) h = absurd (cc)
fact_same (facts.Stands actor far answered job) (facts.Pin k l o u) h = absurd (cc)
fact_same (facts.Stands actor far answered job) (facts.Pinned k l o) h = absurd (cc)
fact_same (facts.Stands actor far answered job) (facts.Got k l o) h = absurd (cc)
fact_same (facts.Stands actor far answered job) (facts.Gone k) h = absurd (cc)
fact_same (facts.Stands actor far answered job) (facts.Taken k l o) h = absurd (cc)
fact_same (facts.Stands actor far answered job) (facts.Stored k l o) h = absurd (cc)
fact_same (facts.Stands actor far answered job) (facts.Filled k l o u) h = absurd (cc)
fact_same (facts.Stands actor far answered job) (facts.Stands actor' far' answered' job') h = stands_same actor far answered job actor' far' answered' job' h

told_same : (a b : Told) → told_eq.eq-value.it a b ≡ true → a ≡ b
told_same a b h = search rules

abbrev the_tell : ℕ → Told → Tell
the_tell name told = record { name = name; told = told }

pub tell_same : (a b : Tell) → tell_eq.eq-value.it a b ≡ true → a ≡ b
tell_same a b h =
    let w = both (a.name == b.name) (told_eq.eq-value.it a.told b.told) h in
    ap (λ (n : ℕ). the_tell n a.told) (alike a.name b.name w.0) ∙ ap (λ (t : Told). the_tell b.name t) (told_same a.told b.told w.1)

waiting_same : (a b : Option Waiting) → option_eq waiting_eq.eq-value.it a b ≡ true → a ≡ b
waiting_same a b h = search rules

numbers_same : (ns ms : List ℕ) → pointwise nat_eq ns ms ≡ true → ms ≡ ns
numbers_same ns ms h = sym (lists_same nat_eq alike ns ms h)

itself : (n : ℕ) → (n == n) ≡ true
itself n = grind (arith, nat_tests)

one_test : (b c : Bool) → b ≡ true → c ≡ true → (b && c) ≡ true
one_test true true one two = refl
one_test true false one two = absurd (cc)
one_test false c one two = absurd (cc)

numbers_equal : (ns : List ℕ) → pointwise nat_eq ns ns ≡ true
numbers_equal [] = refl
numbers_equal (n ∷ ns) = one_test (n == n) (pointwise nat_eq ns ns) (itself n) (numbers_equal ns)

-- rows are equal where their numbers are
pub row_same : (r s : Row) → row_eq.eq-value.it r s ≡ true → (s.facts.items ≡ r.facts.items) × (s.tells.items ≡ r.tells.items)
row_same r s h =
    let w = both (pointwise nat_eq r.facts.items s.facts.items) (pointwise nat_eq r.tells.items s.tells.items) h in
    (numbers_same r.facts.items s.facts.items w.0, numbers_same r.tells.items s.tells.items w.1)

pub row_equal : (r s : Row) → s.facts.items ≡ r.facts.items → s.tells.items ≡ r.tells.items → row_eq.eq-value.it r s ≡ true
row_equal r s facts tells =
    one_test (pointwise nat_eq r.facts.items s.facts.items) (pointwise nat_eq r.tells.items s.tells.items)
    (subst (λ (ns : List ℕ). pointwise nat_eq r.facts.items ns ≡ true) (sym facts) (numbers_equal r.facts.items))
    (subst (λ (ns : List ℕ). pointwise nat_eq r.tells.items ns ≡ true) (sym tells) (numbers_equal r.tells.items))

pub end_same : (ts us : List Tell) (ws vs : List (Option Waiting)) → (pointwise tell_eq.eq-value.it ts us && pointwise (option_eq waiting_eq.eq-value.it) ws vs) ≡ true → (us ≡ ts) × (vs ≡ ws)
end_same ts us ws vs h =
    let w = both (pointwise tell_eq.eq-value.it ts us) (pointwise (option_eq waiting_eq.eq-value.it) ws vs) h in
    (sym (lists_same tell_eq.eq-value.it tell_same ts us w.0), sym (lists_same (option_eq waiting_eq.eq-value.it) waiting_same ws vs w.1))
