-- The loops over turns, actors and steps: what is true between two of their rounds.
use Rattle.std.proofs.Common.{◌≡◌, ℕ, ◌+◌, ◌<◌, ◌≤◌, ◌==◌, ◌⊎◌, inl, inr, nat_lt, Bool, true, false, if◌then◌else◌, List, [], ◌∷◌, ◌++◌, Option, Some, None, length, slice_get, get_or, take, reverse, refl, sym, ap, subst, ◌∙◌, arith, append_assoc, append-nil}
use Rattle.std.proofs.lemmas.Bool.Decides.{nat_tests}
use Rattle.std.proofs.lemmas.List.{take_more}
use Rattle.std.proofs.lemmas.Option.{slice_get_within}
use Rattle.std.proofs.Math.ListN.{length-append}
use Rattle.std.specs.List.{cons_option}
use Rattle.gup_plain.specs.Note.{NoteValue}
use Rattle.gup_plain.specs.declared.note.Waiting.{Waiting}
use Rattle.gup_script.specs.Script.{ScriptValue}
use Rattle.gup_spec_turns.specs.Run.{RunState, run_after, turned, can_go, waiting_in}
use Rattle.gup_core.specs.Machine.{MachineValue, Shows, TakesTurns}
use Rattle.gup_spec_orders.specs.Orders.{told_of, is_of, told_in, tells_of}
use Rattle.gup_search.specs.Search.{Puts, Tells, Stands, TakesToldTurn, AreReady, AreWaits}
use Rattle.gup_search.specs.Graph.{IsBack}
use Rattle.gup_spec_orders.specs.declared.told.Named.{Named}
use Rattle.gup_spec_orders.specs.declared.told.Tell.{Tell}
use Rattle.gup_spec_orders.specs.declared.told.Told.{Told}
use Rattle.gup_search.specs.declared.graph.Step.{Step}
use Rattle.gup_search.proofs.Lists.{at_end, at_longer, at_either, nothing_at}
use Rattle.gup_search.proofs.Turns.{turned-append, stands_on}

-- ---- turns

-- what was shown is shown after the first turns of a list
abbrev pub ShowsAfter : ScriptValue → (was now : MachineValue) → (actors : List ℕ) → (i : ℕ) → Type 0
ShowsAfter script was now actors i = (r : RunState) → Shows was r → Shows now (turned script r (take i actors))

taken_on : (script : ScriptValue) (r : RunState) (actors : List ℕ) (i a : ℕ) → i < length actors → a ≡ get_or actors i a → turned script r (take (i + 1) actors) ≡ run_after script (turned script r (take i actors)) a
taken_on script r actors i a within is =
    ap (λ (xs : List ℕ). turned script r xs) (take_more actors i a within)
    ∙ turned-append script r (take i actors) (get_or actors i a ∷ [])
    ∙ ap (λ (b : ℕ). run_after script (turned script r (take i actors)) b) (sym is)

pub shows_more : (script : ScriptValue) (was mid now : MachineValue) (actors : List ℕ) (i a : ℕ) (notes : List NoteValue) → mid.script ≡ script → i < length actors → a ≡ get_or actors i a → TakesTurns mid now a notes → ShowsAfter script was mid actors i → ShowsAfter script was now actors (i + 1)
shows_more script was mid now actors i a notes same within is taken h r shown =
    let before : RunState = turned script r (take i actors) in
    subst (λ (s : RunState). Shows now s) (sym (taken_on script r actors i a within is))
    (subst (λ (s : ScriptValue). Shows now (run_after s before a)) same (taken before (h r shown)).shown)

-- whatever order the machine stood behind, it stands behind the first turns of a list after it
abbrev pub StandsAfter : ScriptValue → List Named → (was now : MachineValue) → (old new : List Tell) → (actors : List ℕ) → (i : ℕ) → Type 0
StandsAfter script named was now old new actors i =
    (order : List ℕ) → Stands script named order was old → Stands script named (order ++ take i actors) now new

pub stands_none : (script : ScriptValue) (named : List Named) (m : MachineValue) (tells : List Tell) (actors : List ℕ) → StandsAfter script named m m tells tells actors 0
stands_none script named m tells actors order h = subst (λ (o : List ℕ). Stands script named o m tells) (sym (append-nil order)) h

order_on : (order actors : List ℕ) (i a : ℕ) → i < length actors → a ≡ get_or actors i a → (order ++ take i actors) ++ a ∷ [] ≡ order ++ take (i + 1) actors
order_on order actors i a within is =
    append_assoc order (take i actors) (a ∷ [])
    ∙ ap (λ (b : ℕ). order ++ (take i actors ++ b ∷ [])) is
    ∙ ap (λ (xs : List ℕ). order ++ xs) (sym (take_more actors i a within))

pub stands_more : (script : ScriptValue) (named : List Named) (was mid now : MachineValue) (old tells new : List Tell) (actors : List ℕ) (i a : ℕ) → now.script ≡ mid.script → i < length actors → a ≡ get_or actors i a → TakesToldTurn named mid now a tells new → StandsAfter script named was mid old tells actors i → StandsAfter script named was now old new actors (i + 1)
stands_more script named was mid now old tells new actors i a kept within is taken h order stands =
    subst (λ (o : List ℕ). Stands script named o now new) (order_on order actors i a within is)
    (stands_on script named (order ++ take i actors) mid now a tells new kept taken (h order stands))

-- ---- who is ready

-- of the first n actors these can go
pub record AreReadyTo (m : MachineValue) (ready : List ℕ) (n : ℕ) : Type 0 where
  pub there : (k a : ℕ) → slice_get ready k ≡ Some a → a < n
  pub can : (k a : ℕ) → slice_get ready k ≡ Some a → (r : RunState) → Shows m r → can_go m.script r a ≡ true
  pub all : (a : ℕ) (r : RunState) → a < n → Shows m r → can_go m.script r a ≡ true → (k : ℕ) × (slice_get ready k ≡ Some a)

pub ready_first : (m : MachineValue) (ready : List ℕ) → ready ≡ [] → AreReadyTo m ready 0
ready_first m ready none =
    record {
      there = λ k a there. absurd (nothing_at k a (subst (λ (xs : List ℕ). slice_get xs k ≡ Some a) none there));
      can = λ k a there. absurd (nothing_at k a (subst (λ (xs : List ℕ). slice_get xs k ≡ Some a) none there));
      all = λ a r below. absurd (omega arith);
    }

below_more : (a n : ℕ) → a < n → a < n + 1
below_more a n below = omega arith

at_most : (a n : ℕ) → a ≡ n → a < n + 1
at_most a n is = omega arith

below_or_at : (a n : ℕ) → a < n + 1 → (a < n) ⊎ (a ≡ n)
below_or_at a n below = grind arith

-- the next one can go
pub ready_more : (m : MachineValue) (ready : List ℕ) (n : ℕ) → ((r : RunState) → Shows m r → true ≡ can_go m.script r n) → AreReadyTo m ready n → AreReadyTo m (ready ++ n ∷ []) (n + 1)
ready_more m ready n can h =
    record {
      there = λ k a there. there_at k a (at_either ready n k a there);
      can = λ k a there r shown. can_at k a r shown (at_either ready n k a there);
      all = λ a r below shown able. all_at a r shown able (below_or_at a n below);
    }
  where
    there_at : (k a : ℕ) → (slice_get ready k ≡ Some a) ⊎ ((k ≡ length ready) × (a ≡ n)) → a < n + 1
    there_at k a (inl before) = below_more a n (h.there k a before)
    there_at k a (inr last) = at_most a n last.1

    can_at : (k a : ℕ) (r : RunState) → Shows m r → (slice_get ready k ≡ Some a) ⊎ ((k ≡ length ready) × (a ≡ n)) → can_go m.script r a ≡ true
    can_at k a r shown (inl before) = h.can k a before r shown
    can_at k a r shown (inr last) = ap (λ (b : ℕ). can_go m.script r b) last.1 ∙ sym (can r shown)

    all_at : (a : ℕ) (r : RunState) → Shows m r → can_go m.script r a ≡ true → (a < n) ⊎ (a ≡ n) → (k : ℕ) × (slice_get (ready ++ n ∷ []) k ≡ Some a)
    all_at a r shown able (inl below) = let w = h.all a r below shown able in (w.0, at_longer ready n w.0 a w.1)
    all_at a r shown able (inr is) = (length ready, at_end ready n ∙ ap (λ (b : ℕ). Some b) (sym is))

true_or_false : (b : Bool) → b ≡ true → false ≡ b → ⊥
true_or_false b one two = cc

-- the next one can't
pub ready_same : (m : MachineValue) (ready : List ℕ) (n : ℕ) → ((r : RunState) → Shows m r → false ≡ can_go m.script r n) → AreReadyTo m ready n → AreReadyTo m ready (n + 1)
ready_same m ready n cannot h =
    record {
      there = λ k a there. below_more a n (h.there k a there);
      can = h.can;
      all = λ a r below shown able. all_at a r shown able (below_or_at a n below);
    }
  where
    all_at : (a : ℕ) (r : RunState) → Shows m r → can_go m.script r a ≡ true → (a < n) ⊎ (a ≡ n) → (k : ℕ) × (slice_get ready k ≡ Some a)
    all_at a r shown able (inl below) = h.all a r below shown able
    all_at a r shown able (inr is) = absurd (true_or_false (can_go m.script r n) (ap (λ (b : ℕ). can_go m.script r b) (sym is) ∙ able) (cannot r shown))

pub ready_all : (m : MachineValue) (ready : List ℕ) (n : ℕ) → n ≡ length m.script.actors → AreReadyTo m ready n → AreReady m ready
ready_all m ready n is h =
    record {
      there = λ k a there. subst (λ (j : ℕ). a < j) is (h.there k a there);
      can = h.can;
      all = λ a r below. h.all a r (subst (λ (j : ℕ). a < j) (sym is) below);
    }

-- ---- what each waits for

pub record AreWaitsTo (m : MachineValue) (waits : List (Option Waiting)) (n : ℕ) : Type 0 where
  pub many : length waits ≡ n
  pub each : (r : RunState) (a : ℕ) → Shows m r → a < n → slice_get waits a ≡ Some (waiting_in m.script r a)

pub waits_first : (m : MachineValue) (waits : List (Option Waiting)) → waits ≡ [] → AreWaitsTo m waits 0
waits_first m waits none =
    record {
      many = ap (λ (ws : List (Option Waiting)). length ws) none;
      each = λ r a shown below. absurd (omega arith);
    }

pub waits_more : (m : MachineValue) (waits : List (Option Waiting)) (n : ℕ) (waiting : Option Waiting) → ((r : RunState) → Shows m r → waiting ≡ waiting_in m.script r n) → AreWaitsTo m waits n → AreWaitsTo m (waits ++ waiting ∷ []) (n + 1)
waits_more m waits n waiting is h =
    record {
      many = length-append waits (waiting ∷ []) ∙ ap (λ (k : ℕ). k + 1) h.many;
      each = λ r a shown below. each_at r a shown (below_or_at a n below);
    }
  where
    each_at : (r : RunState) (a : ℕ) → Shows m r → (a < n) ⊎ (a ≡ n) → slice_get (waits ++ waiting ∷ []) a ≡ Some (waiting_in m.script r a)
    each_at r a shown (inl below) = at_longer waits waiting a (waiting_in m.script r a) (h.each r a shown below)
    each_at r a shown (inr at) =
        ap (λ (k : ℕ). slice_get (waits ++ waiting ∷ []) k) (at ∙ sym h.many)
        ∙ at_end waits waiting
        ∙ ap (λ (w : Option Waiting). Some w) (is r shown ∙ ap (λ (k : ℕ). waiting_in m.script r k) (sym at))

pub waits_all : (m : MachineValue) (waits : List (Option Waiting)) (n : ℕ) → n ≡ length m.script.actors → AreWaitsTo m waits n → AreWaits m waits
waits_all m waits n is h r a shown below = h.each r a shown (subst (λ (j : ℕ). a < j) (sym is) below)

-- ---- the way back

-- the path so far, and the rest of each way back
abbrev pub IsBackTo : List (Option Step) → (i at : ℕ) → (path : List ℕ) → Type 0
IsBackTo steps i at path =
    (back : List ℕ) → IsBack steps i back → (rest : List ℕ) × IsBack steps at rest × (back ≡ path ++ rest)

pub back_first : (steps : List (Option Step)) (i : ℕ) (path : List ℕ) → path ≡ [] → IsBackTo steps i i path
back_first steps i path none back h = (back, h, ap (λ (xs : List ℕ). xs ++ back) (sym none))

back_within_by : (steps : List (Option Step)) (at : ℕ) (rest : List ℕ) → IsBack steps at rest → at < length steps
back_within_by steps at [] h = slice_get_within steps at None h
back_within_by steps at (a ∷ rest) h = slice_get_within steps at (Some h.0) h.1

-- there is a step
pub back_within : (steps : List (Option Step)) (i at : ℕ) (path back : List ℕ) → IsBack steps i back → IsBackTo steps i at path → at < length steps
back_within steps i at path back is h = let w = h back is in back_within_by steps at w.0 w.1

same_step : (steps : List (Option Step)) (at : ℕ) (x y : Option Step) → slice_get steps at ≡ Some x → slice_get steps at ≡ Some y → x ≡ y
same_step steps at x y one two = cc

rest_more : (steps : List (Option Step)) (at : ℕ) (step : Step) (path back rest : List ℕ) → slice_get steps at ≡ Some (Some step) → IsBack steps at rest → back ≡ path ++ rest → (later : List ℕ) × IsBack steps step.parent later × (back ≡ (path ++ step.actor ∷ []) ++ later)
rest_more steps at step path back [] there h is = absurd (let same = same_step steps at (Some step) None there h in cc)
rest_more steps at step path back (a ∷ rest) there h is =
    let same : h.0 ≡ step = let both = same_step steps at (Some step) (Some h.0) there h.1 in cc in (
      rest,
      subst (λ (s : Step). IsBack steps s.parent rest) same h.4,
      is ∙ ap (λ (b : ℕ). path ++ (b ∷ rest)) (sym h.2 ∙ ap (λ (s : Step). s.actor) same) ∙ sym (append_assoc path (step.actor ∷ []) rest),
    )

pub back_more : (steps : List (Option Step)) (i at : ℕ) (step : Step) (path : List ℕ) → slice_get steps at ≡ Some (Some step) → IsBackTo steps i at path → IsBackTo steps i step.parent (path ++ step.actor ∷ [])
back_more steps i at step path there h back is =
    let w = h back is in
    rest_more steps at step path back w.0 there w.1 w.2

parent_below : (steps : List (Option Step)) (at : ℕ) (step : Step) (rest : List ℕ) → slice_get steps at ≡ Some (Some step) → IsBack steps at rest → step.parent < at
parent_below steps at step [] there h = absurd (let same = same_step steps at (Some step) None there h in cc)
parent_below steps at step (a ∷ rest) there h =
    let same : h.0 ≡ step = let both = same_step steps at (Some step) (Some h.0) there h.1 in cc in
    subst (λ (s : Step). s.parent < at) same h.3

pub back_smaller : (steps : List (Option Step)) (i at : ℕ) (step : Step) (path back : List ℕ) → slice_get steps at ≡ Some (Some step) → IsBack steps i back → IsBackTo steps i at path → step.parent < at
back_smaller steps i at step path back there is h = let w = h back is in parent_below steps at step w.0 there w.1

rest_none : (steps : List (Option Step)) (at : ℕ) (path back rest : List ℕ) → slice_get steps at ≡ Some None → IsBack steps at rest → back ≡ path ++ rest → path ≡ back
rest_none steps at path back [] there h is = sym (append-nil path) ∙ sym is
rest_none steps at path back (a ∷ rest) there h is = absurd (let same = same_step steps at None (Some h.0) there h.1 in cc)

-- at the beginning the path is the whole way back
pub back_all : (steps : List (Option Step)) (i at : ℕ) (path : List ℕ) → slice_get steps at ≡ Some None → IsBackTo steps i at path → (back : List ℕ) → IsBack steps i back → reverse path ≡ reverse back
back_all steps i at path there h back is =
    let w = h back is in
    ap (λ (xs : List ℕ). reverse xs) (rest_none steps at path back w.0 there w.1 w.2)

-- ---- what a note tells

-- it is put in for the operations up to this place
abbrev pub TellsTo : List Named → (old new : List Tell) → NoteValue → (i : ℕ) → Type 0
TellsTo named old new note i =
    (k : ℕ) (name : Named) → slice_get named k ≡ Some name → tells_of new k ≡ tells_of old k ++ (if nat_lt k i then told_in name (note ∷ []) else [])

pub tells_first : (named : List Named) (tells : List Tell) (note : NoteValue) → TellsTo named tells tells note 0
tells_first named tells note k name there =
    sym (append-nil (tells_of tells k)) ∙ ap (λ (b : Bool). tells_of tells k ++ (if b then told_in name (note ∷ []) else [])) (sym (never k))
  where
    never : (k : ℕ) → nat_lt k 0 ≡ false
    never k = grind (arith, nat_tests)

pub tells_all : (named : List Named) (old new : List Tell) (note : NoteValue) (i : ℕ) → length named ≤ i → TellsTo named old new note i → Tells named old new (note ∷ [])
tells_all named old new note i most h k name there =
    h k name there ∙ ap (λ (b : Bool). tells_of old k ++ (if b then told_in name (note ∷ []) else [])) (always (slice_get_within named k name there))
  where
    always : k < length named → nat_lt k i ≡ true
    always below = grind (arith, nat_tests)

-- a note that tells nothing
pub tells_nothing : (named : List Named) (tells : List Tell) (note : NoteValue) → told_of note.what ≡ None → Tells named tells tells (note ∷ [])
tells_nothing named tells note none k name there =
    sym (append-nil (tells_of tells k))
    ∙ ap (λ (ts : List Told). tells_of tells k ++ ts) (sym (ap (λ (o : Option Told). cons_option (if is_of name note then o else None) []) none ∙ nothing (is_of name note)))
  where
    nothing : (b : Bool) → cons_option {X = Told} (if b then None else None) [] ≡ []
    nothing true = refl
    nothing false = refl

told_if : (b : Bool) (told : Told) → cons_option (if b then Some told else None) [] ≡ (if b then told ∷ [] else [])
told_if true told = refl
told_if false told = refl

told_by : (name : Named) (note : NoteValue) (told : Told) → told_of note.what ≡ Some told → told_in name (note ∷ []) ≡ (if is_of name note then told ∷ [] else [])
told_by name note told is = ap (λ (o : Option Told). cons_option (if is_of name note then o else None) []) is ∙ told_if (is_of name note) told

test_before : (k i : ℕ) → k < i → (nat_lt k (i + 1) ≡ true) × (nat_lt k i ≡ true) × ((i == k) ≡ false)
test_before k i below = (grind (arith, nat_tests), grind (arith, nat_tests), grind (arith, nat_tests))

test_at : (k i : ℕ) → k ≡ i → (nat_lt k (i + 1) ≡ true) × (nat_lt k i ≡ false) × ((i == k) ≡ true)
test_at k i is = (grind (arith, nat_tests), grind (arith, nat_tests), grind (arith, nat_tests))

test_after : (k i : ℕ) → i < k → (nat_lt k (i + 1) ≡ false) × (nat_lt k i ≡ false) × ((i == k) ≡ false)
test_after k i above = (grind (arith, nat_tests), grind (arith, nat_tests), grind (arith, nat_tests))

order_of : (k i : ℕ) → (k < i) ⊎ ((k ≡ i) ⊎ (i < k))
order_of k i = grind arith

same_name : (named : List Named) (k i : ℕ) (name operation : Named) → k ≡ i → slice_get named k ≡ Some name → slice_get named i ≡ Some operation → name ≡ operation
same_name named k i name operation is there at = cc

-- the operation at this place is put in
pub tells_step : (named : List Named) (old mid new : List Tell) (note : NoteValue) (told : Told) (i : ℕ) (operation : Named) → told_of note.what ≡ Some told → slice_get named i ≡ Some operation → is_of operation note ≡ true → Puts mid new (record { name = i; told = told }) → TellsTo named old mid note i → TellsTo named old new note (i + 1)
tells_step named old mid new note told i operation is at hit puts h k name there =
    let olds : List Told = tells_of old k in
    let mids : List Told = tells_of mid k in
    let t : List Told = told_in name (note ∷ []) in
    elim (order_of k i) [
      | inl below ↦
          let w = test_before k i below in
          puts k
          ∙ ap (λ (b : Bool). mids ++ (if b then told ∷ [] else [])) w.2
          ∙ append-nil mids
          ∙ h k name there
          ∙ ap (λ (b : Bool). olds ++ (if b then t else [])) (w.1 ∙ sym w.0)
      | inr more ↦ elim more [
        | inl here ↦
            let w = test_at k i here in
            let one : t ≡ told ∷ [] =
            told_by name note told is
            ∙ ap (λ (b : Bool). if b then told ∷ [] else []) (ap (λ (n : Named). is_of n note) (same_name named k i name operation here there at) ∙ hit) in
            puts k
            ∙ ap (λ (b : Bool). mids ++ (if b then told ∷ [] else [])) w.2
            ∙ ap (λ (ts : List Told). ts ++ told ∷ []) (h k name there ∙ ap (λ (b : Bool). olds ++ (if b then t else [])) w.1 ∙ append-nil olds)
            ∙ ap (λ (ts : List Told). olds ++ ts) (sym one)
            ∙ ap (λ (b : Bool). olds ++ (if b then t else [])) (sym w.0)
        | inr above ↦
            let w = test_after k i above in
            puts k
            ∙ ap (λ (b : Bool). mids ++ (if b then told ∷ [] else [])) w.2
            ∙ append-nil mids
            ∙ h k name there
            ∙ ap (λ (b : Bool). olds ++ (if b then t else [])) (w.1 ∙ sym w.0)
      ]
    ]

-- the note is none of the operation at this place
pub tells_skip : (named : List Named) (old new : List Tell) (note : NoteValue) (told : Told) (i : ℕ) (operation : Named) → told_of note.what ≡ Some told → slice_get named i ≡ Some operation → is_of operation note ≡ false → TellsTo named old new note i → TellsTo named old new note (i + 1)
tells_skip named old new note told i operation is at miss h k name there =
    let olds : List Told = tells_of old k in
    let t : List Told = told_in name (note ∷ []) in
    elim (order_of k i) [
      | inl below ↦ let w = test_before k i below in h k name there ∙ ap (λ (b : Bool). olds ++ (if b then t else [])) (w.1 ∙ sym w.0)
      | inr more ↦ elim more [
        | inl here ↦
            let w = test_at k i here in
            let nothing : t ≡ [] =
            told_by name note told is
            ∙ ap (λ (b : Bool). if b then told ∷ [] else []) (ap (λ (n : Named). is_of n note) (same_name named k i name operation here there at) ∙ miss) in
            h k name there
            ∙ ap (λ (b : Bool). olds ++ (if b then t else [])) w.1
            ∙ ap (λ (ts : List Told). olds ++ ts) (sym nothing)
            ∙ ap (λ (b : Bool). olds ++ (if b then t else [])) (sym w.0)
        | inr above ↦ let w = test_after k i above in h k name there ∙ ap (λ (b : Bool). olds ++ (if b then t else [])) (w.1 ∙ sym w.0)
      ]
    ]
