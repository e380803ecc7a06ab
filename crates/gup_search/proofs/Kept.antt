-- States as they are kept: pools that grow, and rows that are put in.
use Rattle.std.proofs.Common.{◌≡◌, ℕ, ◌⊎◌, inl, inr, Bool, true, false, not, if◌then◌else◌, List, [], ◌∷◌, ◌++◌, Some, length, slice_get, map, zero, suc, refl, sym, ap, subst, ◌∙◌}
use Rattle.std.proofs.lemmas.List.{map-append}
use Rattle.std.specs.List.{list_any}
use Rattle.indexmap.specs.IndexSet.{insert_key}
use Rattle.gup_image.specs.declared.fact.Fact.{Fact}
use Rattle.gup_image.specs.contracts.fact.FactPartialEq.TheImpl as fact_eq
use Rattle.gup_spec_orders.specs.declared.told.Tell.{Tell}
use Rattle.gup_spec_orders.specs.contracts.told.TellPartialEq.TheImpl as tell_eq
use Rattle.gup_search.specs.declared.states.Row.{Row}
use Rattle.gup_search.specs.contracts.states.RowPartialEq.TheImpl as row_eq
use Rattle.gup_search.specs.Pools.{AreWithin, Grows, AreNumbers, Lacks, standing}
use Rattle.gup_search.specs.States.{State, state_of, states_of, AreKept, Has, Inserts}
use Rattle.gup_search.proofs.Lists.{at_either, nothing_at, same_some, true_or_false, found_by, found_at}
use Rattle.gup_search.proofs.Same.{fact_same, tell_same, row_same, row_equal}
use Rattle.gup_search.proofs.Numbers.{within_numbers, standing_numbers, standing_grown, within_grown, same_numbers, stands_in}

abbrev pub the_state : List Fact → List Tell → State
the_state facts tells = record { facts = facts; tells = tells }

-- ---- pools that grow

-- the states stay
pub states_grown : (facts more : List Fact) (tells longer : List Tell) (rows : List Row) → Grows facts more → Grows tells longer → ((k : ℕ) (row : Row) → slice_get rows k ≡ Some row → AreWithin facts row.facts.items × AreWithin tells row.tells.items) → states_of more longer rows ≡ states_of facts tells rows
states_grown facts more tells longer [] one two within = refl
states_grown facts more tells longer (row ∷ rows) one two within =
    let here = within zero row refl in
    ap (λ (fs : List Fact). the_state fs (standing longer row.tells.items) ∷ states_of more longer rows) (standing_grown facts more row.facts.items one here.0)
    ∙ ap (λ (ts : List Tell). the_state (standing facts row.facts.items) ts ∷ states_of more longer rows) (standing_grown tells longer row.tells.items two here.1)
    ∙ ap (λ (ss : List State). state_of facts tells row ∷ ss) (states_grown facts more tells longer rows one two (λ k r at. within (suc k) r at))

-- and so does what is kept
pub kept_grown : (facts more : List Fact) (tells longer : List Tell) (rows : List Row) → Grows facts more → Grows tells longer → AreKept facts tells rows → AreKept more longer rows
kept_grown facts more tells longer rows one two kept =
    record {
      facts_differ = one.different kept.facts_differ;
      tells_differ = two.different kept.tells_differ;
      within =
          λ k row at.
          let w = kept.within k row at in
          (within_grown facts more row.facts.items one w.0, within_grown tells longer row.tells.items two w.1);
    }

-- ---- a row that is put in

kept_pushed : (facts : List Fact) (tells : List Tell) (rows : List Row) (row : Row) → AreWithin facts row.facts.items → AreWithin tells row.tells.items → AreKept facts tells rows → AreKept facts tells (rows ++ row ∷ [])
kept_pushed facts tells rows row one two kept =
    record { facts_differ = kept.facts_differ; tells_differ = kept.tells_differ; within = λ k other at. by k other (at_either rows row k other at) }
  where
    by : (k : ℕ) (other : Row) → (slice_get rows k ≡ Some other) ⊎ ((k ≡ length rows) × (other ≡ row)) → AreWithin facts other.facts.items × AreWithin tells other.tells.items
    by k other (inl before) = kept.within k other before
    by k other (inr last) = subst (λ (r : Row). AreWithin facts r.facts.items × AreWithin tells r.tells.items) (sym last.1) (one, two)

-- the row of a state: its numbers are those of the state's facts and tells
pub record IsRow (facts : List Fact) (tells : List Tell) (state : State) (row : Row) : Type 0 where
  pub facts_at : AreNumbers fact_eq.eq-value.it facts state.facts row.facts.items
  pub tells_at : AreNumbers tell_eq.eq-value.it tells state.tells row.tells.items

pub kept_inserted : (facts : List Fact) (tells : List Tell) (rows new : List Row) (state : State) (row : Row) → IsRow facts tells state row → new ≡ insert_key row_eq.eq-value.it rows row → AreKept facts tells rows → AreKept facts tells new
kept_inserted facts tells rows new state row is inserted kept =
    subst (λ (rs : List Row). AreKept facts tells rs) (sym inserted) (by (list_any (row_eq.eq-value.it row) rows))
  where
    by : (b : Bool) → AreKept facts tells (if b then rows else rows ++ row ∷ [])
    by true = kept
    by false =
        kept_pushed facts tells rows row
        (within_numbers fact_eq.eq-value.it fact_same facts state.facts row.facts.items is.facts_at)
        (within_numbers tell_eq.eq-value.it tell_same tells state.tells row.tells.items is.tells_at)
        kept

state_at : (facts : List Fact) (tells : List Tell) (row : Row) (state : State) → IsRow facts tells state row → state_of facts tells row ≡ state
state_at facts tells row state is =
    ap (λ (fs : List Fact). the_state fs (standing tells row.tells.items)) (standing_numbers fact_eq.eq-value.it fact_same facts state.facts row.facts.items is.facts_at)
    ∙ ap (λ (ts : List Tell). the_state state.facts ts) (standing_numbers tell_eq.eq-value.it tell_same tells state.tells row.tells.items is.tells_at)

at_map : {X Y : Type 0} (f : X → Y) (xs : List X) (k : ℕ) (x : X) → slice_get xs k ≡ Some x → slice_get (map f xs) k ≡ Some (f x)
at_map f [] k x at = absurd (nothing_at k x at)
at_map {X} {Y} f (y ∷ xs) zero x at = ap (λ z. Some (f z)) (same_some y x at)
at_map f (y ∷ xs) (suc k) x at = at_map f xs k x at

from_map : {X Y : Type 0} (f : X → Y) (xs : List X) (k : ℕ) (y : Y) → slice_get (map f xs) k ≡ Some y → (x : X) × (slice_get xs k ≡ Some x) × (f x ≡ y)
from_map f [] k y at = absurd (nothing_at k y at)
from_map f (x ∷ xs) zero y at = (x, refl, same_some (f x) y at)
from_map f (x ∷ xs) (suc k) y at = from_map f xs k y at

-- a row that is equal to the state's is found where the state is among them
pub row_found : (facts : List Fact) (tells : List Tell) (rows : List Row) (state : State) (row : Row) → AreKept facts tells rows → IsRow facts tells state row → Has (states_of facts tells rows) state → list_any (row_eq.eq-value.it row) rows ≡ true
row_found facts tells rows state row kept is has =
    let w = from_map (state_of facts tells) rows has.0 state has.1 in
    let within = kept.within has.0 w.0 w.1 in
    let fs : row.facts.items ≡ w.0.facts.items = same_numbers fact_eq.eq-value.it fact_same facts state.facts row.facts.items w.0.facts.items kept.facts_differ is.facts_at within.0 (ap (λ (s : State). s.facts) w.2) in
    let ts : row.tells.items ≡ w.0.tells.items = same_numbers tell_eq.eq-value.it tell_same tells state.tells row.tells.items w.0.tells.items kept.tells_differ is.tells_at within.1 (ap (λ (s : State). s.tells) w.2) in
    found_at (row_eq.eq-value.it row) rows has.0 w.0 w.1 (row_equal row w.0 (sym fs) (sym ts))

-- and where one is found, the state is among them
pub state_found : (facts : List Fact) (tells : List Tell) (rows : List Row) (state : State) (row : Row) → IsRow facts tells state row → list_any (row_eq.eq-value.it row) rows ≡ true → Has (states_of facts tells rows) state
state_found facts tells rows state row is found =
    let w = found_by (row_eq.eq-value.it row) rows found in
    let same = row_same row w.1 w.3 in
    let alike : state_of facts tells w.1 ≡ state_of facts tells row =
    ap (λ (ns : List ℕ). the_state (standing facts ns) (standing tells w.1.tells.items)) same.0
    ∙ ap (λ (ns : List ℕ). the_state (standing facts row.facts.items) (standing tells ns)) same.1 in
    (w.0, at_map (state_of facts tells) rows w.0 w.1 w.2 ∙ ap (λ (s : State). Some s) (alike ∙ state_at facts tells row state is))

inserts_row : (facts : List Fact) (tells : List Tell) (rows : List Row) (state : State) (row : Row) → AreKept facts tells rows → IsRow facts tells state row → (b : Bool) → list_any (row_eq.eq-value.it row) rows ≡ b → Inserts (states_of facts tells rows) (states_of facts tells (if b then rows else rows ++ row ∷ [])) state (not b)
inserts_row facts tells rows state row kept is true found = (refl, state_found facts tells rows state row is found)
inserts_row facts tells rows state row kept is false found = (
  map-append (state_of facts tells) rows (row ∷ []) ∙ ap (λ (s : State). states_of facts tells rows ++ s ∷ []) (state_at facts tells row state is),
  λ has. true_or_false (list_any (row_eq.eq-value.it row) rows) (row_found facts tells rows state row kept is has) found,
)

pub inserts_kept : (facts more : List Fact) (tells longer : List Tell) (rows new : List Row) (old : List State) (state : State) (row : Row) (is_new : Bool) → Grows facts more → Grows tells longer → AreKept facts tells rows → IsRow more longer state row → is_new ≡ not (list_any (row_eq.eq-value.it row) rows) → new ≡ insert_key row_eq.eq-value.it rows row → states_of facts tells rows ≡ old → Inserts old (states_of more longer new) state is_new
inserts_kept facts more tells longer rows new old state row is_new one two kept is added inserted view =
    let before : states_of more longer rows ≡ old = states_grown facts more tells longer rows one two kept.within ∙ view in
    let h =
    inserts_row more longer rows state row (kept_grown facts more tells longer rows one two kept) is (list_any (row_eq.eq-value.it row) rows) refl in
    subst (λ (b : Bool). Inserts old (states_of more longer new) state b) (sym added)
    (
    subst (λ (rs : List Row). Inserts old (states_of more longer rs) state (not (list_any (row_eq.eq-value.it row) rows))) (sym inserted)
    (subst (λ (ss : List State). Inserts ss (states_of more longer (insert_key row_eq.eq-value.it rows row)) state (not (list_any (row_eq.eq-value.it row) rows))) before h)
    )

-- ---- what isn't there

pub lacks_fact : (facts : List Fact) (tells : List Tell) (rows : List Row) (state : State) → AreKept facts tells rows → Lacks facts state.facts → Has (states_of facts tells rows) state → ⊥
lacks_fact facts tells rows state kept lacks has =
    let w = from_map (state_of facts tells) rows has.0 state has.1 in
    let found =
    stands_in facts w.0.facts.items lacks.0 lacks.1 (kept.within has.0 w.0 w.1).0
    (subst (λ (s : State). slice_get s.facts lacks.0 ≡ Some lacks.1) (sym w.2) lacks.2) in
    lacks.3 found.0 found.1

pub lacks_tell : (facts : List Fact) (tells : List Tell) (rows : List Row) (state : State) → AreKept facts tells rows → Lacks tells state.tells → Has (states_of facts tells rows) state → ⊥
lacks_tell facts tells rows state kept lacks has =
    let w = from_map (state_of facts tells) rows has.0 state has.1 in
    let found =
    stands_in tells w.0.tells.items lacks.0 lacks.1 (kept.within has.0 w.0 w.1).1
    (subst (λ (s : State). slice_get s.tells lacks.0 ≡ Some lacks.1) (sym w.2) lacks.2) in
    lacks.3 found.0 found.1

-- the tells of the state at a row
pub tells_at_row : (facts : List Fact) (tells : List Tell) (rows : List Row) (k : ℕ) (row : Row) (state : State) → slice_get rows k ≡ Some row → slice_get (states_of facts tells rows) k ≡ Some state → standing tells row.tells.items ≡ state.tells
tells_at_row facts tells rows k row state at there =
    ap (λ (s : State). s.tells) (same_some (state_of facts tells row) state (sym (at_map (state_of facts tells) rows k row at) ∙ there))
