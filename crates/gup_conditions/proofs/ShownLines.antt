-- The lines that tells are, one tell after another.
use Rattle.std.proofs.Common.{◌≡◌, ℕ, ◌<◌, ◌≤◌, ◌+◌, ◌==◌, Bool, true, false, if◌then◌else◌, List, ◌∷◌, ◌++◌, length, get_or, map, filter, drop, sym, ap, ◌∙◌, arith, append-nil}
use Rattle.std.proofs.lemmas.Bool.Decides.{nat_tests}
use Rattle.std.proofs.lemmas.List.{drop_more, drop_all}
use Rattle.gup_spec_orders.specs.Orders.{tells_of}
use Rattle.gup_spec_orders.specs.Printed.{lines_from}
use Rattle.gup_spec_orders.specs.declared.told.Named.{Named}
use Rattle.gup_spec_orders.specs.declared.told.Tell.{Tell}
use Rattle.gup_spec_orders.specs.declared.told.Told.{Told}
use Rattle.gup_conditions.specs.Line.{LineValue, line_of_answer}

-- ---- tells of an operation, and of another

tells_by : (b : Bool) (tell : Tell) (tells : List Tell) → List Told
tells_by b tell tells = map (λ (t : Tell). t.told) (if b then tell ∷ tells else tells)

tells_here : (tells : List Tell) (k : ℕ) (other : Tell) (name : ℕ) → k < length tells → (get_or tells k other).name ≡ name → tells_of (drop k tells) name ≡ (get_or tells k other).told ∷ tells_of (drop (k + 1) tells) name
unfolding tells_by
tells_here tells k other name within same =
    let is : ((get_or tells k other).name == name) ≡ true = grind (arith, nat_tests) in
    ap (λ (ts : List Tell). tells_of ts name) (drop_more tells k other within)
    ∙ ap (λ (b : Bool). tells_by b (get_or tells k other) (filter (λ (t : Tell). t.name == name) (drop (k + 1) tells))) is

tells_other : (tells : List Tell) (k : ℕ) (other : Tell) (name : ℕ) → k < length tells → ((get_or tells k other).name ≡ name → ⊥) → tells_of (drop k tells) name ≡ tells_of (drop (k + 1) tells) name
unfolding tells_by
tells_other tells k other name within differs =
    let is : ((get_or tells k other).name == name) ≡ false = grind (arith, nat_tests) in
    ap (λ (ts : List Tell). tells_of ts name) (drop_more tells k other within)
    ∙ ap (λ (b : Bool). tells_by b (get_or tells k other) (filter (λ (t : Tell). t.name == name) (drop (k + 1) tells))) is

-- the lines of the tells that are left
abbrev lines_left : Named → (words : List ℕ) → List Told → List LineValue
lines_left operation words tolds = map line_of_answer (lines_from operation words tolds)

pub told_more : (operation : Named) (tells : List Tell) (k : ℕ) (other : Tell) (name : ℕ) (lines new all : List LineValue) (words left : List ℕ) → k < length tells → (get_or tells k other).name ≡ name
    → ((rest : List Told) → lines ++ lines_left operation words ((get_or tells k other).told ∷ rest) ≡ new ++ lines_left operation left rest)
    → lines ++ lines_left operation words (tells_of (drop k tells) name) ≡ all → new ++ lines_left operation left (tells_of (drop (k + 1) tells) name) ≡ all
told_more operation tells k other name lines new all words left within same pushed so_far =
    sym (pushed (tells_of (drop (k + 1) tells) name))
    ∙ ap (λ (tolds : List Told). lines ++ lines_left operation words tolds) (sym (tells_here tells k other name within same))
    ∙ so_far

pub told_other : (operation : Named) (tells : List Tell) (k : ℕ) (other : Tell) (name : ℕ) (lines all : List LineValue) (words : List ℕ) → k < length tells → ((get_or tells k other).name ≡ name → ⊥)
    → lines ++ lines_left operation words (tells_of (drop k tells) name) ≡ all → lines ++ lines_left operation words (tells_of (drop (k + 1) tells) name) ≡ all
told_other operation tells k other name lines all words within differs so_far =
    ap (λ (tolds : List Told). lines ++ lines_left operation words tolds) (sym (tells_other tells k other name within differs)) ∙ so_far

pub told_all : (operation : Named) (tells : List Tell) (k name : ℕ) (lines all : List LineValue) (words : List ℕ) → length tells ≤ k → lines ++ lines_left operation words (tells_of (drop k tells) name) ≡ all → lines ≡ all
told_all operation tells k name lines all words past so_far =
    sym (append-nil lines)
    ∙ ap (λ (ts : List Tell). lines ++ lines_left operation words (tells_of ts name)) (sym (drop_all k tells past))
    ∙ so_far
