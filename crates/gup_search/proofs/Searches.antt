-- The search as a whole: what is closed, and what each order comes to.
use Rattle.std.proofs.Common.{◌≡◌, ℕ, ◌+◌, ◌<◌, ◌≤◌, ◌⊎◌, inl, inr, Bool, true, false, if◌then◌else◌, List, [], ◌∷◌, ◌++◌, Option, Some, None, length, get_or, slice_get, refl, sym, ap, subst, ◌∙◌, arith, append_assoc, append-nil}
use Rattle.std.proofs.lemmas.Option.{slice_get_within, slice_get_cases}
use Rattle.std.proofs.Math.ListN.{length-append}
use Rattle.gup_plain.specs.declared.note.Waiting.{Waiting}
use Rattle.gup_script.specs.Script.{ScriptValue}
use Rattle.gup_spec_turns.specs.Run.{RunState, run_start, turned, can_go, waiting_in}
use Rattle.gup_core.specs.Machine.{MachineValue, Shows}
use Rattle.gup_core.specs.Images.{IsImage}
use Rattle.gup_spec_orders.specs.Orders.{Goes, IsOver, IsOrder, IsOutcome, AreOfOrders, AreOfAllOrders, beginning, setup, tells_of}
use Rattle.gup_search.specs.Search.{Stands, AreReady, AreWaits}
use Rattle.gup_search.specs.Graph.{IsCovered, IsLed, CanBeReached, AreReached, IsGraph, Grows, LeadsBy, IsAt, CanGoAt}
use Rattle.gup_search.specs.States.{State, Has}
use Rattle.gup_search.specs.Reach.{AreReachable, ReachesStates, AreAll, ReachesAllStates}
use Rattle.gup_search.specs.Ends.{HasEnd, IsEnds, AddsOutcome}
use Rattle.gup_search.specs.Explored.{EndsIn, IsClosed, Keeps, AreFound, IsSearch}
use Rattle.gup_spec_orders.specs.declared.told.Named.{Named}
use Rattle.gup_spec_orders.specs.declared.told.Tell.{Tell}
use Rattle.gup_search.specs.declared.graph.Graph.{Graph}
use Rattle.gup_spec_orders.specs.declared.told.Outcome.{Outcome}
use Rattle.gup_search.specs.declared.ends.Ends.{Ends}
use Rattle.gup_search.proofs.Lists.{at_longer, at_either, nothing_at, same_at, true_or_false}
use Rattle.gup_search.proofs.Turns.{turned-append}
use Rattle.gup_search.proofs.Numbers.{different_more}
use Rattle.gup_search.proofs.Graphs.{AreExact, stands_at, covered_on, reached_can}

false_unless : (b : Bool) → (b ≡ true → ⊥) → b ≡ false
false_unless true never = absurd (never refl)
false_unless false never = refl

-- ---- an end

-- where nobody is ready, nobody can go
pub over_if_none : (script : ScriptValue) (m : MachineValue) (r : RunState) → m.script ≡ script → AreReady m [] → Shows m r → IsOver script r
over_if_none script m r same ready shown a below =
    subst (λ (s : ScriptValue). can_go s r a ≡ false) same
    (
    false_unless (can_go m.script r a)
    (λ can. let w = ready.all a r (subst (λ (s : ScriptValue). a < length s.actors) (sym same) below) shown can in nothing_at w.0 a w.1)
    )

-- the outcome of an order
pub outcome_of : (script : ScriptValue) (named : List Named) (order : List ℕ) (m : MachineValue) (tells : List Tell) (waits : List (Option Waiting)) (outcome : Outcome) → Stands script named order m tells → AreWaits m waits → outcome.tells.items ≡ tells → outcome.waits.items ≡ waits → IsOutcome script named order outcome
outcome_of script named order m tells waits outcome stands are told waiting =
    let r : RunState = turned script (run_start script) order in
    record {
      tells = λ k name there. ap (λ (ts : List Tell). tells_of ts k) told ∙ stands.told k name there;
      waits =
          λ a below.
          ap (λ (ws : List (Option Waiting)). slice_get ws a) waiting
          ∙ are r a stands.shown (subst (λ (s : ScriptValue). a < length s.actors) (sym stands.same) below)
          ∙ ap (λ (s : ScriptValue). Some (waiting_in s r a)) stands.same;
    }

-- the orders that the state covers end in the outcome that was added
pub ends_added : (script : ScriptValue) (named : List Named) (m : MachineValue) (state : State) (tells : List Tell) (waits : List (Option Waiting)) (outcomes : List Outcome) → AreExact → m.script ≡ script → IsImage m state.facts → AreWaits m waits → tells ≡ state.tells → HasEnd outcomes tells waits → EndsIn script named outcomes state
ends_added script named m state tells waits outcomes exact same image are copied found order over covers =
    let stands = stands_at script named order m state.facts state.tells exact same image covers in
    (found.0, found.1, found.2, outcome_of script named order m state.tells waits found.1 stands are (found.3 ∙ copied) found.4)

-- the outcome that was added happens
pub happen_added : (script : ScriptValue) (behind : Bool) (named : List Named) (m : MachineValue) (state : State) (old new : List Outcome) (outcome : Outcome) → AreExact → m.script ≡ script → IsImage m state.facts → AreReady m [] → AreWaits m outcome.waits.items → outcome.tells.items ≡ state.tells → IsLed script behind named outcome.path.items state.facts state.tells → AddsOutcome old new outcome → AreOfOrders script behind named old → AreOfOrders script behind named new
happen_added script behind named m state old new outcome exact same image ready are copied led adds h =
    let order : List ℕ = setup script behind ++ outcome.path.items in
    let stands = stands_at script named order m state.facts state.tells exact same image led.covers in
    let over : IsOver script (turned script (beginning script behind) outcome.path.items) =
    subst (λ (r : RunState). IsOver script r) (turned-append script (run_start script) (setup script behind) outcome.path.items)
    (over_if_none script m (turned script (run_start script) order) same ready stands.shown) in
    let here : IsOrder script behind outcome.path.items × IsOutcome script named order outcome =
    (record { goes = led.goes; over = over }, outcome_of script named order m state.tells outcome.waits.items outcome stands are copied refl) in
    elim adds.items [
      | inl stay ↦ subst (λ (os : List Outcome). AreOfOrders script behind named os) (sym stay) h
      | inr more ↦ subst (λ (os : List Outcome). AreOfOrders script behind named os) (sym more) (happen_pushed script behind named old outcome here h)
    ]
  where
    happen_at : (script : ScriptValue) (behind : Bool) (named : List Named) (old : List Outcome) (outcome : Outcome) → IsOrder script behind outcome.path.items × IsOutcome script named (setup script behind ++ outcome.path.items) outcome → AreOfOrders script behind named old → (k : ℕ) (o : Outcome) → (slice_get old k ≡ Some o) ⊎ ((k ≡ length old) × (o ≡ outcome)) → IsOrder script behind o.path.items × IsOutcome script named (setup script behind ++ o.path.items) o
    happen_at script behind named old outcome here h k o (inl before) = h k o before
    happen_at script behind named old outcome here h k o (inr last) =
        subst (λ (x : Outcome). IsOrder script behind x.path.items × IsOutcome script named (setup script behind ++ x.path.items) x) (sym last.1) here

    happen_pushed : (script : ScriptValue) (behind : Bool) (named : List Named) (old : List Outcome) (outcome : Outcome) → IsOrder script behind outcome.path.items × IsOutcome script named (setup script behind ++ outcome.path.items) outcome → AreOfOrders script behind named old → AreOfOrders script behind named (old ++ outcome ∷ [])
    happen_pushed script behind named old outcome here h k o there = happen_at script behind named old outcome here h k o (at_either old outcome k o there)

pub keeps_added : (old new : List Outcome) (outcome : Outcome) → AddsOutcome old new outcome → Keeps old new
keeps_added old new outcome adds k o there =
    elim adds.items [
      | inl stay ↦ subst (λ (os : List Outcome). slice_get os k ≡ Some o) (sym stay) there
      | inr more ↦ subst (λ (os : List Outcome). slice_get os k ≡ Some o) (sym more) (at_longer old outcome k o there)
    ]

-- ---- what is closed stays so

closed_grown : (script : ScriptValue) (named : List Named) (old new : Graph) (before after : List Outcome) (state : State) → Grows old new → Keeps before after → IsClosed script named old before state → IsClosed script named new after state
closed_grown script named old new before after state grows keeps h =
    record {
      leads = λ a order below can covers. covered_on script named (order ++ a ∷ []) old new grows (h.leads a order below can covers);
      ends = λ order over covers. let found = h.ends order over covers in (found.0, found.1, keeps found.0 found.1 found.2, found.3);
    }

below_or_at : (k i : ℕ) → k < i + 1 → (k < i) ⊎ (k ≡ i)
below_or_at k i below = grind arith

one_further : (i n : ℕ) → i < n → i + 1 ≤ n
one_further i n below = omega arith

past_it : (k i n : ℕ) → k < i → i ≤ n → n ≤ k → ⊥
past_it k i n below over past = omega arith

-- The state with this number is expanded.
pub search_on : (script : ScriptValue) (behind : Bool) (named : List Named) (limit : ℕ) (old new : Graph) (before after : Ends) (i : ℕ) (state : State) → slice_get old.states i ≡ Some state → IsSearch script behind named limit old before i → IsGraph script behind named limit new → AreFound script behind named after → Grows old new → Keeps before.outcomes.items after.outcomes.items → (new.left_out ≡ false → IsClosed script named new after.outcomes.items state) → IsSearch script behind named limit new after (i + 1)
search_on script behind named limit old new before after i state at search graph found grows keeps here =
    record {
      graph = graph;
      found = found;
      over = one_further i (length new.states) (slice_get_within new.states i state (grows.states i state at));
      closed = λ none k other below there. closed_at none k other (below_or_at k i below) there;
    }
  where
    back_at : (k : ℕ) (other : State) → k < i → slice_get new.states k ≡ Some other → slice_get old.states k ≡ Some other
    back_at k other below there = was_at (slice_get_cases old.states k).1
      where
        was_at : ((x : State) × (k < length old.states) × (slice_get old.states k ≡ Some x) × (get_or old.states k x ≡ x)) ⊎ ((length old.states ≤ k) × (slice_get old.states k ≡ None)) → slice_get old.states k ≡ Some other
        was_at (inl w) = w.2 ∙ ap (λ (s : State). Some s) (same_at new.states k w.0 other (grows.states k w.0 w.2) there)
        was_at (inr w) = absurd (past_it k i (length old.states) below search.over w.0)

    closed_at : new.left_out ≡ false → (k : ℕ) (other : State) → (k < i) ⊎ (k ≡ i) → slice_get new.states k ≡ Some other → IsClosed script named new after.outcomes.items other
    closed_at none k other (inl below) there =
        closed_grown script named old new before.outcomes.items after.outcomes.items other grows keeps
        (search.closed (grows.left none) k other below (back_at k other below there))
    closed_at none k other (inr is) there =
        subst (λ (s : State). IsClosed script named new after.outcomes.items s)
        (same_at new.states i state other (grows.states i state at) (subst (λ (j : ℕ). slice_get new.states j ≡ Some other) is there))
        (here none)

-- where nobody can go, the state leads nowhere
pub closed_over : (script : ScriptValue) (named : List Named) (g : Graph) (m : MachineValue) (state : State) (outcomes : List Outcome) → AreExact → m.script ≡ script → IsImage m state.facts → AreReady m [] → EndsIn script named outcomes state → IsClosed script named g outcomes state
closed_over script named g m state outcomes exact same image ready ends =
    record {
      leads =
          λ a order below can covers.
          let stands = stands_at script named order m state.facts state.tells exact same image covers in
          let over = over_if_none script m (turned script (run_start script) order) same ready stands.shown in
          absurd (true_or_false (can_go script (turned script (run_start script) order) a) can (over a below));
      ends = ends;
    }

-- where somebody can, no order ends there
pub closed_led : (script : ScriptValue) (named : List Named) (g : Graph) (m : MachineValue) (state : State) (outcomes : List Outcome) (ready : List ℕ) (first : ℕ) → AreExact → m.script ≡ script → IsImage m state.facts → AreReady m ready → slice_get ready 0 ≡ Some first → ((k a : ℕ) → slice_get ready k ≡ Some a → LeadsBy script named g state a) → IsClosed script named g outcomes state
closed_led script named g m state outcomes ready first exact same image are there leads =
    record {
      leads =
          λ a order below can covers.
          let stands = stands_at script named order m state.facts state.tells exact same image covers in
          let r : RunState = turned script (run_start script) order in
          let w =
          are.all a r (subst (λ (s : ScriptValue). a < length s.actors) (sym same) below) stands.shown
          (subst (λ (s : ScriptValue). can_go s r a ≡ true) (sym same) can) in
          leads w.0 a w.1 order covers;
      ends =
          λ order over covers.
          let stands = stands_at script named order m state.facts state.tells exact same image covers in
          let r : RunState = turned script (run_start script) order in
          let can = subst (λ (s : ScriptValue). can_go s r first ≡ true) same (are.can 0 first there r stands.shown) in
          absurd (true_or_false (can_go script r first) can (over first (subst (λ (s : ScriptValue). first < length s.actors) same (are.there 0 first there))));
    }

-- who is ready can go, whichever machine has the image
pub can_go_at : (script : ScriptValue) (states : List State) (i : ℕ) (m : MachineValue) (state : State) (ready : List ℕ) (k a : ℕ) → AreExact → slice_get states i ≡ Some state → IsAt script states i m → AreReady m ready → slice_get ready k ≡ Some a → CanGoAt script states i a
can_go_at script states i m state ready k a exact at is are there =
    record {
      below = subst (λ (s : ScriptValue). a < length s.actors) is.same (are.there k a there);
      can =
          λ n r other shown.
          subst (λ (s : ScriptValue). can_go s r a ≡ true) is.same
          (are.can k a there r (exact m n state.facts r (is.same ∙ sym other.same) (is.image state at) (other.image state at) shown));
    }

-- ---- the whole

pub search_first : (script : ScriptValue) (behind : Bool) (named : List Named) (limit : ℕ) (g : Graph) (ends : Ends) → IsGraph script behind named limit g → IsEnds ends → ends.outcomes.items ≡ [] → IsSearch script behind named limit g ends 0
search_first script behind named limit g ends graph known none =
    record {
      graph = graph;
      found =
          record {
            known = known;
            happen = λ k o there. absurd (nothing_at k o (subst (λ (os : List Outcome). slice_get os k ≡ Some o) none there));
          };
      over = omega arith;
      closed = λ left k state below there. absurd (omega arith);
    }

within_all : (k n i : ℕ) → k < n → n ≤ i → k < i
within_all k n i below most = omega arith

-- Every way to go from an order that is covered leads to one that is.
covered_all : (script : ScriptValue) (named : List Named) (g : Graph) (outcomes : List Outcome) → ((k : ℕ) (state : State) → slice_get g.states k ≡ Some state → IsClosed script named g outcomes state) → (path order : List ℕ) → Goes script (turned script (run_start script) order) path → IsCovered script named order g.states → IsCovered script named (order ++ path) g.states
covered_all script named g outcomes closed [] order goes h = subst (λ (o : List ℕ). IsCovered script named o g.states) (sym (append-nil order)) h
covered_all script named g outcomes closed (a ∷ path) order goes h =
    let next = (closed h.0 h.1 h.2).leads a order goes.0 goes.1 h.3 in
    subst (λ (o : List ℕ). IsCovered script named o g.states) (append_assoc order (a ∷ []) path)
    (
    covered_all script named g outcomes closed path (order ++ a ∷ [])
    (subst (λ (r : RunState). Goes script r path) (sym (turned-append script (run_start script) order (a ∷ []))) goes.2)
    next
    )

all_closed : (script : ScriptValue) (behind : Bool) (named : List Named) (limit : ℕ) (g : Graph) (ends : Ends) (i : ℕ) → IsSearch script behind named limit g ends i → length g.states ≤ i → g.left_out ≡ false → (k : ℕ) (state : State) → slice_get g.states k ≡ Some state → IsClosed script named g ends.outcomes.items state
all_closed script behind named limit g ends i search most none k state there =
    search.closed none k state (within_all k (length g.states) i (slice_get_within g.states k state there) most) there

-- Unless one was left out, every path that can be gone leads to one of the states,
pub all_covered : (script : ScriptValue) (behind : Bool) (named : List Named) (limit : ℕ) (g : Graph) (ends : Ends) (i : ℕ) → IsSearch script behind named limit g ends i → length g.states ≤ i → g.left_out ≡ false → AreAll script behind named g.states
all_covered script behind named limit g ends i search most none path goes =
    covered_all script named g ends.outcomes.items (all_closed script behind named limit g ends i search most none) path (setup script behind) goes (search.graph.begun none)

-- and every order comes to an outcome.
pub all_found : (script : ScriptValue) (behind : Bool) (named : List Named) (limit : ℕ) (g : Graph) (ends : Ends) (i : ℕ) → IsSearch script behind named limit g ends i → length g.states ≤ i → g.left_out ≡ false → AreOfAllOrders script behind named ends.outcomes.items
all_found script behind named limit g ends i search most none order is =
    let covered = all_covered script behind named limit g ends i search most none order is.goes in
    (all_closed script behind named limit g ends i search most none covered.0 covered.1 covered.2).ends (setup script behind ++ order)
    (subst (λ (r : RunState). IsOver script r) (sym (turned-append script (run_start script) (setup script behind) order)) is.over)
    covered.3

-- ---- how many states there are

reachable : (script : ScriptValue) (behind : Bool) (named : List Named) (limit : ℕ) (g : Graph) → AreReached script behind named limit g → AreReachable script behind named g.states
reachable script behind named limit g h =
    record { different = h.different; reached = λ k state at. reached_can script behind named g.steps.items k state (h.reached k state at) }

-- with the one that was left out
reachable_more : (script : ScriptValue) (behind : Bool) (named : List Named) (states : List State) (state : State) → (Has states state → ⊥) → CanBeReached script behind named state → AreReachable script behind named states → AreReachable script behind named (states ++ state ∷ [])
reachable_more script behind named states state fresh can h =
    record {
      different = different_more states state (λ k at. fresh (k, at)) h.different;
      reached = λ k other at. reached_at k other (at_either states state k other at);
    }
  where
    reached_at : (k : ℕ) (other : State) → (slice_get states k ≡ Some other) ⊎ ((k ≡ length states) × (other ≡ state)) → CanBeReached script behind named other
    reached_at k other (inl before) = h.reached k other before
    reached_at k other (inr last) = subst (λ (s : State). CanBeReached script behind named s) (sym last.1) can

states_by : (script : ScriptValue) (behind : Bool) (named : List Named) (limit : ℕ) (g : Graph) → AreReached script behind named limit g → (left : Bool) → g.left_out ≡ left → ReachesStates script behind named (if left then limit + 1 else length g.states)
states_by script behind named limit g h true is =
    let more = h.more is in (
      g.states ++ more.0 ∷ [],
      length-append g.states (more.0 ∷ []) ∙ ap (λ (n : ℕ). n + 1) (h.full is),
      reachable_more script behind named g.states more.0 more.1 more.2 (reachable script behind named limit g h),
    )
states_by script behind named limit g h false is = (g.states, refl, reachable script behind named limit g h)

-- There are so many states, and one more where one was left out.
pub states_reached : (script : ScriptValue) (behind : Bool) (named : List Named) (limit : ℕ) (g : Graph) → IsGraph script behind named limit g → ReachesStates script behind named (if g.left_out then limit + 1 else length g.states)
states_reached script behind named limit g graph = states_by script behind named limit g graph.states g.left_out refl

-- Where none was, these are all.
pub all_reached : (script : ScriptValue) (behind : Bool) (named : List Named) (limit : ℕ) (g : Graph) (ends : Ends) (i : ℕ) → IsSearch script behind named limit g ends i → length g.states ≤ i → g.left_out ≡ false → ReachesAllStates script behind named (length g.states)
all_reached script behind named limit g ends i search most none = (
  g.states,
  refl,
  reachable script behind named limit g search.graph.states,
  all_covered script behind named limit g ends i search most none,
)
