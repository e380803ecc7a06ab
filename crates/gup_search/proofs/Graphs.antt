-- Graphs, and what a state that is added does to them.
use Rattle.std.proofs.Common.{◌≡◌, ℕ, ◌+◌, ◌<◌, ◌≤◌, ◌⊎◌, inl, inr, Bool, true, false, List, [], ◌∷◌, ◌++◌, Option, Some, None, length, slice_get, get_or, take, reverse, zero, suc, refl, sym, ap, subst, ◌∙◌, arith, append_assoc, append-nil}
use Rattle.std.proofs.lemmas.List.{reverse-append, take_more}
use Rattle.std.proofs.lemmas.Option.{slice_get_within}
use Rattle.std.proofs.Math.ListN.{length-append}
use Rattle.gup_image.specs.declared.fact.Fact.{Fact}
use Rattle.gup_script.specs.Script.{ScriptValue}
use Rattle.gup_script.specs.Valid.{IsScript}
use Rattle.gup_spec_turns.specs.Run.{RunState, run_start, turned, can_go}
use Rattle.gup_core.specs.Machine.{MachineValue, Shows, IsNew}
use Rattle.gup_core.specs.Images.{IsImage}
use Rattle.gup_spec_orders.specs.Orders.{beginning, setup, tells_of}
use Rattle.gup_search.specs.Search.{AreInOrder, Stands, TakesToldTurn}
use Rattle.gup_search.specs.Pools.{AreDifferent}
use Rattle.gup_search.specs.States.{State, Has}
use Rattle.gup_search.specs.Graph.{IsBack, AreSame, IsPushed, Adds, Covers, IsCovered, IsLed, IsReached, CanBeReached, AreReached, IsGraph, Grows, LeadsBy, IsAt, CanGoAt, IsSteppedBy}
use Rattle.gup_spec_orders.specs.declared.told.Named.{Named}
use Rattle.gup_spec_orders.specs.declared.told.Tell.{Tell}
use Rattle.gup_search.specs.declared.graph.Graph.{Graph}
use Rattle.gup_search.specs.declared.graph.Step.{Step}
use Rattle.gup_search.proofs.Lists.{at_end, at_longer, at_either, nothing_at, one_only, same_at, there_is, true_or_false}
use Rattle.gup_search.proofs.Numbers.{different_more}
use Rattle.gup_search.proofs.Turns.{turned-append, stands_on, goes_on}

-- ---- the laws of images

abbrev pub AreExact : Type 0
AreExact =
    (m n : MachineValue) (facts : List Fact) (r : RunState) → m.script ≡ n.script → IsImage m facts → IsImage n facts → Shows n r → Shows m r

abbrev pub AreOfStates : Type 0
AreOfStates =
    (m n : MachineValue) (a b : List Fact) (r : RunState) → IsScript m.script → m.script ≡ n.script → IsImage m a → IsImage n b
    → Shows m r → Shows n r → a ≡ b

-- A machine with a state's image stands behind each order that the state covers.
pub stands_at : (script : ScriptValue) (named : List Named) (order : List ℕ) (m : MachineValue) (facts : List Fact) (tells : List Tell) → AreExact → m.script ≡ script → IsImage m facts → Covers script named order facts tells → Stands script named order m tells
stands_at script named order m facts tells exact same image h =
    record {
      same = same;
      shown = exact m h.machine facts (turned script (run_start script) order) (same ∙ sym h.stands.same) image h.image h.stands.shown;
      told = h.stands.told;
      in_order = h.stands.in_order;
    }

-- The turn leads from each order that the state covers to one that the state after it covers.
pub covers_on : (script : ScriptValue) (named : List Named) (order : List ℕ) (m n : MachineValue) (a : ℕ) (facts after : List Fact) (tells new : List Tell) → AreExact → m.script ≡ script → IsImage m facts → n.script ≡ m.script → TakesToldTurn named m n a tells new → IsImage n after → Covers script named order facts tells → Covers script named (order ++ a ∷ []) after new
covers_on script named order m n a facts after tells new exact same image kept taken next h =
    record {
      machine = n;
      image = next;
      stands = stands_on script named order m n a tells new kept taken (stands_at script named order m facts tells exact same image h);
    }

-- a machine behind the path to the state has the state's image
pub image_at : (script : ScriptValue) (named : List Named) (order : List ℕ) (m : MachineValue) (facts own : List Fact) (tells : List Tell) → AreOfStates → IsScript script → m.script ≡ script → Shows m (turned script (run_start script) order) → IsImage m own → Covers script named order facts tells → IsImage m facts
image_at script named order m facts own tells alike valid same shown image h =
    let is : own ≡ facts =
    alike m h.machine own facts (turned script (run_start script) order) (subst IsScript (sym same) valid) (same ∙ sym h.stands.same) image h.image shown h.stands.shown in
    subst (λ (fs : List Fact). IsImage m fs) is image

-- ---- what grows

pub grows_same : (g : Graph) → Grows g g
grows_same g = record { states = λ j state at. at; left = λ none. none }

pub grows_on : (f g h : Graph) → Grows f g → Grows g h → Grows f h
grows_on f g h one two =
    record {
      states = λ j state at. two.states j state (one.states j state at);
      left = λ none. one.left (two.left none);
    }

grows_by : (old new : Graph) → AreSame old new → (new.left_out ≡ false → old.left_out ≡ false) → Grows old new
grows_by old new same left =
    record {
      states = λ j state at. subst (λ (ss : List State). slice_get ss j ≡ Some state) (sym same.states) at;
      left = left;
    }

pub grows_added : (limit : ℕ) (old new : Graph) (state : State) (step : Option Step) → Adds limit old new state step → Grows old new
grows_added limit old new state step adds =
    elim adds [
      | inl there ↦ grows_by old new there.same (λ none. sym there.left ∙ none)
      | inr more ↦ elim more [
        | inl pushed ↦ record {
          states = λ j s at. subst (λ (ss : List State). slice_get ss j ≡ Some s) (sym pushed.states) (at_longer old.states state j s at);
          left = λ none. sym pushed.left ∙ none;
        }
        | inr out ↦ grows_by old new out.same (λ none. absurd (true_or_false new.left_out out.left none))
      ]
    ]

pub covered_on : (script : ScriptValue) (named : List Named) (order : List ℕ) (old new : Graph) → Grows old new → IsCovered script named order old.states → IsCovered script named order new.states
covered_on script named order old new grows h = (h.0, h.1, grows.states h.0 h.1 h.2, h.3)

-- ---- the state that is added

has_same : (old new : Graph) (state : State) → AreSame old new → Has old.states state → Has new.states state
has_same old new state same h = (h.0, subst (λ (ss : List State). slice_get ss h.0 ≡ Some state) (sym same.states) h.1)

adds_state : (limit : ℕ) (old new : Graph) (step : Option Step) (fs gs : List Fact) (ts us : List Tell) → fs ≡ gs → ts ≡ us → Adds limit old new (record { facts = fs; tells = ts }) step → Adds limit old new (record { facts = gs; tells = us }) step
adds_state limit old new step fs gs ts us facts tells adds =
    subst (λ (xs : List Tell). Adds limit old new (record { facts = gs; tells = xs }) step) tells
    (subst (λ (xs : List Fact). Adds limit old new (record { facts = xs; tells = ts }) step) facts adds)

-- what is added is the same state, and the same step
pub adds_as : (limit : ℕ) (old new : Graph) (x y : Option Step) (fs gs : List Fact) (ts us : List Tell) → x ≡ y → fs ≡ gs → ts ≡ us → Adds limit old new (record { facts = fs; tells = ts }) x → Adds limit old new (record { facts = gs; tells = us }) y
adds_as limit old new x y fs gs ts us step facts tells adds =
    subst (λ (z : Option Step). Adds limit old new (record { facts = gs; tells = us }) z) step (adds_state limit old new x fs gs ts us facts tells adds)

-- unless it is left out, it is there
pub has_added : (limit : ℕ) (old new : Graph) (state : State) (step : Option Step) → new.left_out ≡ false → Adds limit old new state step → Has new.states state
has_added limit old new state step none adds =
    elim adds [
      | inl there ↦ has_same old new state there.same there.found
      | inr more ↦ elim more [
        | inl pushed ↦ (length old.states, subst (λ (ss : List State). slice_get ss (length old.states) ≡ Some state) (sym pushed.states) (at_end old.states state))
        | inr out ↦ absurd (true_or_false new.left_out out.left none)
      ]
    ]

-- an order that it covers is covered
pub covered_added : (script : ScriptValue) (named : List Named) (order : List ℕ) (states : List State) (state : State) → Has states state → Covers script named order state.facts state.tells → IsCovered script named order states
covered_added script named order states state h covers = (h.0, state, h.1, covers)

-- ---- ways back

pub back_longer : (steps : List (Option Step)) (step : Option Step) (i : ℕ) (back : List ℕ) → IsBack steps i back → IsBack (steps ++ step ∷ []) i back
back_longer steps step i [] h = at_longer steps step i None h
back_longer steps step i (a ∷ back) h = (h.0, at_longer steps step i (Some h.0) h.1, h.2, h.3, back_longer steps step h.0.parent back h.4)

pub reverse-cons : (a : ℕ) (back : List ℕ) → reverse (a ∷ back) ≡ reverse back ++ a ∷ []
reverse-cons a back = reverse-append (a ∷ []) back

-- the path to a state after one turn more
pub led_on : (script : ScriptValue) (behind : Bool) (named : List Named) (path : List ℕ) (a : ℕ) (facts after : List Fact) (tells new : List Tell) → a < length script.actors → can_go script (turned script (run_start script) (setup script behind ++ path)) a ≡ true → Covers script named ((setup script behind ++ path) ++ a ∷ []) after new → IsLed script behind named path facts tells → IsLed script behind named (path ++ a ∷ []) after new
led_on script behind named path a facts after tells new below can covers led =
    record {
      goes =
          goes_on script (beginning script behind) path a led.goes below
          (subst (λ (r : RunState). can_go script r a ≡ true) (turned-append script (run_start script) (setup script behind) path) can);
      covers = subst (λ (order : List ℕ). Covers script named order after new) (append_assoc (setup script behind) path (a ∷ [])) covers;
    }

pub reached_on : (script : ScriptValue) (behind : Bool) (named : List Named) (steps : List (Option Step)) (i a : ℕ) (back : List ℕ) (state : State) → i < length steps → IsBack steps i back → IsLed script behind named (reverse back ++ a ∷ []) state.facts state.tells → IsReached script behind named (steps ++ Some (record { parent = i; actor = a }) ∷ []) (length steps) state
reached_on script behind named steps i a back state within isback led =
    let step : Step = record { parent = i; actor = a } in (
      a ∷ back,
      (step, at_end steps (Some step), refl, within, back_longer steps (Some step) i back isback),
      subst (λ (path : List ℕ). IsLed script behind named path state.facts state.tells) (sym (reverse-cons a back)) led,
    )

-- ---- graphs

-- the way back to a state is a path to it
pub reached_can : (script : ScriptValue) (behind : Bool) (named : List Named) (steps : List (Option Step)) (i : ℕ) (state : State) → IsReached script behind named steps i state → CanBeReached script behind named state
reached_can script behind named steps i state h = (reverse h.0, h.2)

abbrev pub IsMore : ScriptValue → (behind : Bool) → List Named → List State → Type 0
IsMore script behind named states = (state : State) × (Has states state → ⊥) × CanBeReached script behind named state

reached_by : (script : ScriptValue) (behind : Bool) (named : List Named) (limit : ℕ) (old new : Graph) → AreSame old new → (new.left_out ≡ true → (length old.states ≡ limit) × IsMore script behind named old.states) → AreReached script behind named limit old → AreReached script behind named limit new
reached_by script behind named limit old new same full h =
    record {
      steps = ap (λ (ss : List (Option Step)). length ss) same.steps ∙ h.steps ∙ sym (ap (λ (ss : List State). length ss) same.states);
      different = subst (λ (ss : List State). AreDifferent ss) (sym same.states) h.different;
      few = subst (λ (ss : List State). length ss ≤ limit) (sym same.states) h.few;
      full = λ left. ap (λ (ss : List State). length ss) same.states ∙ (full left).0;
      more = λ left. subst (λ (ss : List State). IsMore script behind named ss) (sym same.states) (full left).1;
      reached =
          λ i state at.
          subst (λ (ss : List (Option Step)). IsReached script behind named ss i state) (sym same.steps)
          (h.reached i state (subst (λ (ss : List State). slice_get ss i ≡ Some state) same.states at));
    }

length_pushed : {X : Type 0} (xs ys : List X) (x : X) → ys ≡ xs ++ x ∷ [] → length ys ≡ length xs + 1
length_pushed xs ys x is = ap (λ zs. length zs) is ∙ length-append xs (x ∷ [])

no_room : (n limit : ℕ) → n < limit → n ≡ limit → ⊥
no_room n limit less is = omega arith

just_full : (n limit : ℕ) → limit ≤ n → n ≤ limit → n ≡ limit
just_full n limit least most = omega arith

one_more : (n m limit : ℕ) → m ≡ n + 1 → n < limit → m ≤ limit
one_more n m limit is less = omega arith

reached_pushed : (script : ScriptValue) (behind : Bool) (named : List Named) (limit : ℕ) (old new : Graph) (state : State) (step : Option Step) → IsPushed limit old new state step → IsReached script behind named (old.steps.items ++ step ∷ []) (length old.steps.items) state → AreReached script behind named limit old → AreReached script behind named limit new
reached_pushed script behind named limit old new state step pushed here h =
    let states = length_pushed old.states new.states state pushed.states in
    let steps = length_pushed old.steps.items new.steps.items step pushed.steps in
    record {
      steps = steps ∙ ap (λ (n : ℕ). n + 1) h.steps ∙ sym states;
      different = subst (λ (ss : List State). AreDifferent ss) (sym pushed.states) (different_more old.states state (λ k at. pushed.fresh (k, at)) h.different);
      few = one_more (length old.states) (length new.states) limit states pushed.fits;
      full = λ left. absurd (no_room (length old.states) limit pushed.fits (h.full (sym pushed.left ∙ left)));
      more = λ left. absurd (no_room (length old.states) limit pushed.fits (h.full (sym pushed.left ∙ left)));
      reached =
          λ i other at.
          subst (λ (ss : List (Option Step)). IsReached script behind named ss i other) (sym pushed.steps)
          (reached_at i other (at_either old.states state i other (subst (λ (ss : List State). slice_get ss i ≡ Some other) pushed.states at)));
    }
  where
    reached_at : (i : ℕ) (other : State) → (slice_get old.states i ≡ Some other) ⊎ ((i ≡ length old.states) × (other ≡ state)) → IsReached script behind named (old.steps.items ++ step ∷ []) i other
    reached_at i other (inl before) = let r = h.reached i other before in (r.0, back_longer old.steps.items step i r.0 r.1, r.2)
    reached_at i other (inr last) =
        subst (λ (k : ℕ). IsReached script behind named (old.steps.items ++ step ∷ []) k other) (h.steps ∙ sym last.0)
        (subst (λ (s : State). IsReached script behind named (old.steps.items ++ step ∷ []) (length old.steps.items) s) (sym last.1) here)

pub reached_added : (script : ScriptValue) (behind : Bool) (named : List Named) (limit : ℕ) (old new : Graph) (state : State) (step : Option Step) → Adds limit old new state step → IsReached script behind named (old.steps.items ++ step ∷ []) (length old.steps.items) state → AreReached script behind named limit old → AreReached script behind named limit new
reached_added script behind named limit old new state step adds here h =
    elim adds [
      | inl there ↦ reached_by script behind named limit old new there.same (λ left. (h.full (sym there.left ∙ left), h.more (sym there.left ∙ left))) h
      | inr more ↦ elim more [
        | inl pushed ↦ reached_pushed script behind named limit old new state step pushed here h
        | inr out ↦
            reached_by script behind named limit old new out.same
            (λ left. (just_full (length old.states) limit out.full h.few, (state, out.fresh, reached_can script behind named (old.steps.items ++ step ∷ []) (length old.steps.items) state here)))
            h
      ]
    ]

-- ---- the beginning

pub stands_first : (script : ScriptValue) (named : List Named) (m : MachineValue) (tells : List Tell) → tells ≡ [] → IsNew script m → Stands script named [] m tells
stands_first script named m tells none new =
    record {
      same = new.script;
      shown = new.shown;
      told = λ k name there. ap (λ (ts : List Tell). tells_of ts k) none;
      in_order = subst (λ (ts : List Tell). AreInOrder named ts) (sym none) tt;
    }

reached_none : (script : ScriptValue) (behind : Bool) (named : List Named) (limit : ℕ) (g : Graph) → g.states ≡ [] → g.steps.items ≡ [] → g.left_out ≡ false → AreReached script behind named limit g
reached_none script behind named limit g states steps left =
    record {
      steps = ap (λ (ss : List (Option Step)). length ss) steps ∙ sym (ap (λ (ss : List State). length ss) states);
      different = λ j k state at. absurd (nothing_at j state (subst (λ (ss : List State). slice_get ss j ≡ Some state) states at));
      few = subst (λ (ss : List State). length ss ≤ limit) (sym states) (omega arith);
      full = λ out. absurd (true_or_false g.left_out out left);
      more = λ out. absurd (true_or_false g.left_out out left);
      reached = λ i state at. absurd (nothing_at i state (subst (λ (ss : List State). slice_get ss i ≡ Some state) states at));
    }

pub graph_first : (script : ScriptValue) (behind : Bool) (named : List Named) (limit : ℕ) (m : MachineValue) (old new : Graph) (state : State) → old.states ≡ [] → old.steps.items ≡ [] → old.left_out ≡ false → IsImage m state.facts → Stands script named (setup script behind) m state.tells → Adds limit old new state None → IsGraph script behind named limit new
graph_first script behind named limit m old new state states steps left image stands adds =
    let covers : Covers script named (setup script behind) state.facts state.tells = record { machine = m; image = image; stands = stands } in
    let led : IsLed script behind named [] state.facts state.tells =
    record {
      goes = tt;
      covers = subst (λ (order : List ℕ). Covers script named order state.facts state.tells) (sym (append-nil (setup script behind))) covers;
    } in
    record {
      states = reached_added script behind named limit old new state None adds ([], at_end old.steps.items None, led) (reached_none script behind named limit old states steps left);
      begun = λ none. covered_added script named (setup script behind) new.states state (has_added limit old new state None none adds) covers;
    }

-- ---- steps

pub can_go_grown : (script : ScriptValue) (old new : Graph) (i a : ℕ) (state : State) → slice_get old.states i ≡ Some state → Grows old new → CanGoAt script old.states i a → CanGoAt script new.states i a
can_go_grown script old new i a state at grows h =
    record {
      below = h.below;
      can = λ m r is shown. h.can m r (record { same = is.same; image = λ s there. is.image s (grows.states i s there) }) shown;
    }

leads_as : (script : ScriptValue) (named : List Named) (g : Graph) (x y : State) (a b : ℕ) → x ≡ y → a ≡ b → LeadsBy script named g x a → LeadsBy script named g y b
leads_as script named g x y a b same is leads =
    subst (λ (s : State). LeadsBy script named g s b) same (subst (λ (c : ℕ). LeadsBy script named g x c) is leads)

pub stepped : (script : ScriptValue) (behind : Bool) (named : List Named) (limit : ℕ) (old new : Graph) (i a : ℕ) (m n : MachineValue) (parent state : State) (tells : List Tell) → AreExact → IsGraph script behind named limit old → slice_get old.states i ≡ Some parent → IsAt script old.states i m → CanGoAt script old.states i a → n.script ≡ m.script → tells ≡ parent.tells → TakesToldTurn named m n a tells state.tells → IsImage n state.facts → Adds limit old new state (Some (record { parent = i; actor = a })) → IsSteppedBy script behind named limit i old new (a ∷ [])
stepped script behind named limit old new i a m n parent state tells exact graph at is can kept copied took next adds =
    let step : Option Step = Some (record { parent = i; actor = a }) in
    let taken : TakesToldTurn named m n a parent.tells state.tells = subst (λ (ts : List Tell). TakesToldTurn named m n a ts state.tells) copied took in
    let image : IsImage m parent.facts = is.image parent at in
    let r = graph.states.reached i parent at in
    let path : List ℕ = reverse r.0 in
    let stands = stands_at script named (setup script behind ++ path) m parent.facts parent.tells exact is.same image r.2.covers in
    let led = led_on script behind named path a parent.facts state.facts parent.tells state.tells can.below (can.can m (turned script (run_start script) (setup script behind ++ path)) is stands.shown) (covers_on script named (setup script behind ++ path) m n a parent.facts state.facts parent.tells state.tells exact is.same image kept taken next r.2.covers) r.2 in
    let within : i < length old.steps.items = subst (λ (k : ℕ). i < k) (sym graph.states.steps) (slice_get_within old.states i parent at) in
    let grows = grows_added limit old new state step adds in
    record {
      graph =
          record {
            states = reached_added script behind named limit old new state step adds (reached_on script behind named old.steps.items i a r.0 state within r.1 led) graph.states;
            begun = λ none. covered_on script named (setup script behind) old new grows (graph.begun (grows.left none));
          };
      grows = grows;
      leads =
          λ none k b other among there.
          leads_as script named new parent other a b (same_at old.states i parent other at there) (one_only a b k among)
          (
          λ order covers.
          covered_added script named (order ++ a ∷ []) new.states state (has_added limit old new state step none adds)
          (covers_on script named order m n a parent.facts state.facts parent.tells state.tells exact is.same image kept taken next covers)
          );
    }

-- ---- the turns of several actors

leads_grown : (script : ScriptValue) (named : List Named) (old new : Graph) (state : State) (a : ℕ) → Grows old new → LeadsBy script named old state a → LeadsBy script named new state a
leads_grown script named old new state a grows leads order covers = covered_on script named (order ++ a ∷ []) old new grows (leads order covers)

pub steps_none : (script : ScriptValue) (behind : Bool) (named : List Named) (limit i : ℕ) (g : Graph) → IsGraph script behind named limit g → IsSteppedBy script behind named limit i g g []
steps_none script behind named limit i g graph =
    record { graph = graph; grows = grows_same g; leads = λ none k a state among there. absurd (nothing_at k a among) }

pub steps_more : (script : ScriptValue) (behind : Bool) (named : List Named) (limit i : ℕ) (f g h : Graph) (xs ys : List ℕ) → ((k a : ℕ) → slice_get (xs ++ ys) k ≡ Some a → ((j : ℕ) × (slice_get xs j ≡ Some a)) ⊎ ((j : ℕ) × (slice_get ys j ≡ Some a))) → IsSteppedBy script behind named limit i f g xs → IsSteppedBy script behind named limit i g h ys → IsSteppedBy script behind named limit i f h (xs ++ ys)
steps_more script behind named limit i f g h xs ys split one two =
    record {
      graph = two.graph;
      grows = grows_on f g h one.grows two.grows;
      leads =
          λ none k a state among there.
          elim (split k a among) [
            | inl w ↦ leads_grown script named g h state a two.grows (one.leads (two.grows.left none) w.0 a state w.1 there)
            | inr w ↦ two.leads none w.0 a state w.1 (one.grows.states i state there)
          ];
    }

pub split_at : {X : Type 0} (xs ys : List X) (k : ℕ) (y : X) → slice_get (xs ++ ys) k ≡ Some y → ((j : ℕ) × (slice_get xs j ≡ Some y)) ⊎ ((j : ℕ) × (slice_get ys j ≡ Some y))
split_at [] ys k y there = inr (k, there)
split_at (x ∷ xs) ys zero y there = inl (zero, there)
split_at (x ∷ xs) ys (suc k) y there = elim (split_at xs ys k y there) [ inl w ↦ inl (suc w.0, w.1) | inr w ↦ inr w ]

pub steps_on : (script : ScriptValue) (behind : Bool) (named : List Named) (limit i : ℕ) (f g h : Graph) (xs ys : List ℕ) → IsSteppedBy script behind named limit i f g xs → IsSteppedBy script behind named limit i g h ys → IsSteppedBy script behind named limit i f h (xs ++ ys)
steps_on script behind named limit i f g h xs ys = steps_more script behind named limit i f g h xs ys (split_at xs ys)

pub steps_next : (script : ScriptValue) (behind : Bool) (named : List Named) (limit i : ℕ) (f g h : Graph) (actors : List ℕ) (k a : ℕ) → k < length actors → a ≡ get_or actors k a → IsSteppedBy script behind named limit i f g (take k actors) → IsSteppedBy script behind named limit i g h (a ∷ []) → IsSteppedBy script behind named limit i f h (take (k + 1) actors)
steps_next script behind named limit i f g h actors k a within is one two =
    subst (λ (xs : List ℕ). IsSteppedBy script behind named limit i f h xs) (ap (λ (b : ℕ). take k actors ++ b ∷ []) is ∙ sym (take_more actors k a within))
    (steps_on script behind named limit i f g h (take k actors) (a ∷ []) one two)

-- a state that was there is there
pub there_grown : (old new : Graph) (i : ℕ) → Grows old new → i < length old.states → i < length new.states
there_grown old new i grows within =
    let state = there_is old.states i within in
    slice_get_within new.states i state.0 (grows.states i state.0 state.1)
