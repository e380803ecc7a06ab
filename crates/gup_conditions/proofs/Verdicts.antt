-- What the lines of outcomes say of what every order prints.
use Rattle.std.proofs.Common.{◌≡◌, ℕ, ◌<◌, ◌==◌, Bool, true, false, not, ◌&&◌, ◌||◌, List, [], ◌∷◌, ◌++◌, Option, Some, None, All, Contains, length, slice_get, map, filter, zero, suc, refl, sym, ap, ap₂, subst, ◌∙◌, arith, true≢false, eqb-true}
use Rattle.std.specs.List.{list_any, flat_map, position_or_len}
use Rattle.std.specs.Str.{bytes_eq}
use Rattle.std.proofs.lemmas.Bool.Decides.{nat_tests}
use Rattle.std.proofs.lemmas.Grind.{common_steps}
use Rattle.std.proofs.lemmas.List.Elements.{All-nil, All-cons, All-head, All-tail}
use Rattle.std.proofs.lemmas.List.Folds.{list_any-append, list_any_at}
use Rattle.std.proofs.lemmas.List.Quantifiers.{position-Some}
use Rattle.std.proofs.lemmas.Map.Keys.{any_passes_from_place}
use Rattle.std.proofs.lemmas.Map.Views.{any-filter_same, Contains-from_any}
use Rattle.std.proofs.lemmas.Option.{slice_get-get_or}
use Rattle.std.proofs.lemmas.Slice.Eq.{bytes_eq-Decides}
use Rattle.gup_plain.specs.Note.{NoteValue}
use Rattle.gup_script.specs.Script.{ScriptValue}
use Rattle.gup_lines.specs.Text.{outcomes_of}
use Rattle.gup_lines.specs.declared.outcome.Outcome.{Outcome}
use Rattle.gup_spec_orders.specs.Orders.{setup, journal_in}
use Rattle.gup_spec_orders.specs.Printed.{is_line_of, lines_in}
use Rattle.gup_spec_orders.specs.declared.told.Named.{Named}
use Rattle.gup_conditions.specs.Line.{LineValue, line_of_answer, printed, is_same, has_line, has_all}
use Rattle.gup_conditions.specs.Condition.{ConditionValue, PrintsAll, SomePrints, NonePrints, SomeLacks, EachPrints}
use Rattle.gup_conditions.specs.Named.{is_wanted_by, IsNamed, AreNamed}
use Rattle.gup_conditions.specs.Shown.{IsShown, AreShown, AreAllShown}
use Rattle.gup_conditions.specs.Verdict.{first_place, shown_or, shows_all, IsRight}
use Rattle.gup_conditions.specs.declared.shown.Shown.{Shown}
use Rattle.gup_conditions.specs.declared.verdict.Verdict.{Verdict}
use Rattle.gup_conditions.specs.declared.verdict.Verdict.TheVariants.{Open}

pub both : (x y : Bool) → (x && y) ≡ true → (x ≡ true) × (y ≡ true)
both true y h = (refl, h)
both false y h = absurd (cc)

both_true : (x y : Bool) → x ≡ true → y ≡ true → (x && y) ≡ true
both_true x y one two = ap₂ ◌&&◌ one two

-- ---- lines among others

pub same_line : (a b : LineValue) → is_same a b ≡ true → a ≡ b
same_line a b same =
    let one = both (a.actor == b.actor) ((a.op == b.op) && bytes_eq a.text b.text) same in
    let two = both (a.op == b.op) (bytes_eq a.text b.text) one.1 in
    let actor : a.actor ≡ b.actor = eqb-true a.actor b.actor one.0 in
    let op : a.op ≡ b.op = eqb-true a.op b.op two.0 in
    let text : a.text ≡ b.text = (bytes_eq-Decides a.text b.text).0 two.1 in
    λ i. record { actor = actor i; op = op i; text = text i }

itself : (a : LineValue) → is_same a a ≡ true
itself a =
    let text : bytes_eq a.text a.text ≡ true = (bytes_eq-Decides a.text a.text).1 refl in
    let op : (a.op == a.op) ≡ true = grind (arith, nat_tests) in
    let actor : (a.actor == a.actor) ≡ true = grind (arith, nat_tests) in
    both_true _ _ actor (both_true _ _ op text)

has_from : (lines : List LineValue) (line : LineValue) → Contains lines line → has_line lines line ≡ true
has_from lines line (k, within, is) = list_any_at (is_same line) lines k line within (ap (is_same line) is ∙ itself line)

-- all are printed exactly if the test says so
pub prints_all : (lines wanted : List LineValue) → has_all lines wanted ≡ true → All (Contains lines) wanted
prints_all lines [] h = All-nil (Contains lines)
prints_all lines (line ∷ wanted) h =
    let w = both (has_line lines line) (has_all lines wanted) h in
    All-cons (Contains lines) line wanted (Contains-from_any {eq = is_same} same_line line lines w.0) (prints_all lines wanted w.1)

pub has_all_from : (lines wanted : List LineValue) → All (Contains lines) wanted → has_all lines wanted ≡ true
has_all_from lines [] all = refl
has_all_from lines (line ∷ wanted) all =
    both_true (has_line lines line) (has_all lines wanted) (has_from lines line (All-head (Contains lines) line wanted all))
    (has_all_from lines wanted (All-tail (Contains lines) line wanted all))

-- ---- lines of named operations

any-map : {X Y : Type 0} (test : Y → Bool) (f : X → Y) (xs : List X) → list_any test (map f xs) ≡ list_any (λ x. test (f x)) xs
any-map test f [] = refl
any-map test f (x ∷ xs) = ap (λ b. test (f x) || b) (any-map test f xs)

-- the line of an answer is this one
abbrev is_line : LineValue → Outcome → Bool
is_line line answer = is_same line (line_of_answer answer)

of_operation : (line : LineValue) (name : Named) (answers : List Outcome) → list_any (is_line line) (filter (is_line_of name) answers) ≡ (is_wanted_by name line && list_any (is_line line) answers)
of_operation line name answers =
    any-filter_same (is_line line) (is_line_of name) (is_wanted_by name line)
    (λ answer same. ap (λ (l : LineValue). is_wanted_by name l) (sym (same_line line (line_of_answer answer) same))) answers

shared : (a b c : Bool) → ((a && c) || (b && c)) ≡ ((a || b) && c)
shared true b true = refl
shared true true false = refl
shared true false false = refl
shared false b c = refl

of_operations : (line : LineValue) (answers : List Outcome) (named : List Named)
    → list_any (is_line line) (flat_map (λ (name : Named). filter (is_line_of name) answers) named) ≡ (list_any (λ (name : Named). is_wanted_by name line) named && list_any (is_line line) answers)
of_operations line answers [] = refl
of_operations line answers (name ∷ named) =
    list_any-append (is_line line) (filter (is_line_of name) answers) (flat_map (λ (n : Named). filter (is_line_of n) answers) named)
    ∙ ap₂ ◌||◌ (of_operation line name answers) (of_operations line answers named)
    ∙ shared (is_wanted_by name line) (list_any (λ (n : Named). is_wanted_by n line) named) (list_any (is_line line) answers)

pub named_any : (named : List Named) (line : LineValue) → IsNamed named line → list_any (λ (name : Named). is_wanted_by name line) named ≡ true
named_any named line (k, name, at, actor, op) =
    let one : (line.actor == name.actor) ≡ true = grind (arith, nat_tests) in
    let two : (line.op == name.op) ≡ true = grind (arith, nat_tests) in
    any_passes_from_place (λ (n : Named). is_wanted_by n line) named k name at (both_true _ _ one two)

-- A line of a named operation is among those of the named exactly if it is printed.
has_line_shown : (named : List Named) (notes : List NoteValue) (line : LineValue) → IsNamed named line → has_line (map line_of_answer (lines_in named notes)) line ≡ has_line (printed notes) line
has_line_shown named notes line is =
    any-map (is_same line) line_of_answer (lines_in named notes)
    ∙ of_operations line (outcomes_of notes) named
    ∙ ap (λ (b : Bool). b && list_any (is_line line) (outcomes_of notes)) (named_any named line is)
    ∙ sym (any-map (is_same line) line_of_answer (outcomes_of notes))

has_all_shown : (named : List Named) (notes : List NoteValue) (wanted : List LineValue) → AreNamed named wanted → has_all (map line_of_answer (lines_in named notes)) wanted ≡ has_all (printed notes) wanted
has_all_shown named notes [] are = refl
has_all_shown named notes (line ∷ wanted) are = ap₂ ◌&&◌ (has_line_shown named notes line are.0) (has_all_shown named notes wanted are.1)

shows : (script : ScriptValue) (named : List Named) (order : List ℕ) (shown : Shown) (wanted : List LineValue) → AreNamed named wanted → IsShown script named order shown → shows_all wanted shown ≡ has_all (printed (journal_in script order)) wanted
shows script named order shown wanted are is =
    ap (λ (lines : List LineValue). has_all lines wanted) is.lines ∙ has_all_shown named (journal_in script order) wanted are

shows_prints : (script : ScriptValue) (named : List Named) (order : List ℕ) (shown : Shown) (wanted : List LineValue) → AreNamed named wanted → IsShown script named order shown → shows_all wanted shown ≡ true → PrintsAll script order wanted
shows_prints script named order shown wanted are is has =
    prints_all (printed (journal_in script order)) wanted (sym (shows script named order shown wanted are is) ∙ has)

shows_lacks : (script : ScriptValue) (named : List Named) (order : List ℕ) (shown : Shown) (wanted : List LineValue) → AreNamed named wanted → IsShown script named order shown → shows_all wanted shown ≡ false → PrintsAll script order wanted → ⊥
shows_lacks script named order shown wanted are is has all =
    true≢false (sym (has_all_from (printed (journal_in script order)) wanted all) ∙ sym (shows script named order shown wanted are is) ∙ has)

-- ---- the first that passes

pub there : {X : Type 0} (xs : List X) (k : ℕ) → k < length xs → (x : X) × (slice_get xs k ≡ Some x)
there [] k within = absurd (omega arith)
there (x ∷ xs) zero within = (x, refl)
there (x ∷ xs) (suc k) within = there xs k (omega arith)

place_within : {X : Type 0} (test : X → Bool) (xs : List X) (k : ℕ) → first_place test xs ≡ Some k → k < length xs
place_within test xs k is = grind (arith, nat_tests, common_steps)

pub first_passes : {X : Type 0} (test : X → Bool) (xs : List X) (k : ℕ) → first_place test xs ≡ Some k → (x : X) × (slice_get xs k ≡ Some x) × (test x ≡ true)
first_passes test xs k is =
    let w = there xs k (place_within test xs k is) in
    let passes = position-Some test xs k w.0 is in
    let same = sym (slice_get-get_or xs k w.0 passes.0) ∙ w.1 in
    (w.0, w.1, subst (λ x. test x ≡ true) (cc same) passes.1)

before : {X : Type 0} (test : X → Bool) (xs : List X) (k : ℕ) (x : X) → slice_get xs k ≡ Some x → test x ≡ true → position_or_len test xs < length xs
before test [] k x at passes = absurd (cc)
before test (y ∷ xs) zero x at passes =
    let here : test y ≡ true = ap test (cc) ∙ passes in
    grind (arith, common_steps)
before test (y ∷ xs) (suc k) x at passes = let rest = before test xs k x at passes in grind (arith, common_steps)

pub none_passes : {X : Type 0} (test : X → Bool) (xs : List X) (k : ℕ) (x : X) → first_place test xs ≡ None → slice_get xs k ≡ Some x → test x ≡ false
none_passes test xs k x none at = decided (test x) refl
  where
    decided : (b : Bool) → test x ≡ b → b ≡ false
    decided false is = refl
    decided true is = absurd (let within = before test xs k x at is in grind (arith, nat_tests))

-- ---- what the first outcome says

pub some_prints : (script : ScriptValue) (behind : Bool) (named : List Named) (outcomes : List Shown) (wanted : List LineValue) (k : ℕ)
    → AreNamed named wanted → AreShown script behind named outcomes → first_place (shows_all wanted) outcomes ≡ Some k → SomePrints script behind wanted
some_prints script behind named outcomes wanted k are shown first =
    let w = first_passes (shows_all wanted) outcomes k first in
    let is = shown k w.0 w.1 in
    (w.0.path.items, is.0, shows_prints script named (setup script behind ++ w.0.path.items) w.0 wanted are is.1 w.2)

pub none_prints : (script : ScriptValue) (behind : Bool) (named : List Named) (outcomes : List Shown) (wanted : List LineValue)
    → AreNamed named wanted → AreAllShown script behind named outcomes → first_place (shows_all wanted) outcomes ≡ None → NonePrints script behind wanted
none_prints script behind named outcomes wanted are all none order is =
    let w = all order is in
    shows_lacks script named (setup script behind ++ order) w.1 wanted are w.3 (none_passes (shows_all wanted) outcomes w.0 w.1 none w.2)

pub some_lacks : (script : ScriptValue) (behind : Bool) (named : List Named) (outcomes : List Shown) (wanted : List LineValue) (k : ℕ)
    → AreNamed named wanted → AreShown script behind named outcomes → first_place (λ (shown : Shown). not (shows_all wanted shown)) outcomes ≡ Some k → SomeLacks script behind wanted
some_lacks script behind named outcomes wanted k are shown first =
    let w = first_passes (λ (s : Shown). not (shows_all wanted s)) outcomes k first in
    let is = shown k w.0 w.1 in
    (w.0.path.items, is.0, shows_lacks script named (setup script behind ++ w.0.path.items) w.0 wanted are is.1 (not_true (shows_all wanted w.0) w.2))
  where
    not_true : (b : Bool) → not b ≡ true → b ≡ false
    not_true true h = sym h
    not_true false h = refl

pub each_prints : (script : ScriptValue) (behind : Bool) (named : List Named) (outcomes : List Shown) (wanted : List LineValue)
    → AreNamed named wanted → AreAllShown script behind named outcomes → first_place (λ (shown : Shown). not (shows_all wanted shown)) outcomes ≡ None → EachPrints script behind wanted
each_prints script behind named outcomes wanted are all none order is =
    let w = all order is in
    shows_prints script named (setup script behind ++ order) w.1 wanted are w.3
    (not_false (shows_all wanted w.1) (none_passes (λ (s : Shown). not (shows_all wanted s)) outcomes w.0 w.1 none w.2))
  where
    not_false : (b : Bool) → not b ≡ false → b ≡ true
    not_false true h = refl
    not_false false h = sym h

-- where none does and the search is open, nothing is said
pub right_unless : (script : ScriptValue) (behind : Bool) (condition : ConditionValue) (is_open : Bool) (verdict : Verdict)
    → (is_open ≡ false → IsRight script behind condition verdict) → IsRight script behind condition (shown_or None (λ (seen : Option ℕ). Open) is_open verdict)
right_unless script behind condition true verdict right = tt
right_unless script behind condition false verdict right = right refl

pub open_alike : (one two : Option ℕ → Verdict) (is_open : Bool) (verdict : Verdict) → shown_or None one is_open verdict ≡ shown_or None two is_open verdict
open_alike one two true verdict = refl
open_alike one two false verdict = refl

-- ---- as the code asks it

pub with_all_at : (outcomes : List Shown) (asked wanted : List LineValue) (found place : Option ℕ) → asked ≡ wanted → found ≡ first_place (shows_all asked) outcomes → found ≡ place → first_place (shows_all wanted) outcomes ≡ place
with_all_at outcomes asked wanted found place same is at = ap (λ (lines : List LineValue). first_place (shows_all lines) outcomes) (sym same) ∙ sym is ∙ at

pub without_all_at : (outcomes : List Shown) (asked wanted : List LineValue) (found place : Option ℕ) → asked ≡ wanted → found ≡ first_place (λ (shown : Shown). not (shows_all asked shown)) outcomes → found ≡ place
    → first_place (λ (shown : Shown). not (shows_all wanted shown)) outcomes ≡ place
without_all_at outcomes asked wanted found place same is at = ap (λ (lines : List LineValue). first_place (λ (s : Shown). not (shows_all lines s)) outcomes) (sym same) ∙ sym is ∙ at
