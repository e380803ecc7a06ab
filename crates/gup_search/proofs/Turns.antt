-- Turns one after another, their journal, and who can go.
use Rattle.std.proofs.Common.{◌≡◌, ℕ, ◌+◌, ◌<◌, ◌≤◌, Bool, true, false, not, ◌&&◌, List, [], ◌∷◌, ◌++◌, Option, Some, None, length, slice_get, nat_le, is_none, inl, inr, refl, sym, ap, subst, ◌∙◌, arith, append_assoc, append-nil}
use Rattle.std.proofs.lemmas.Bool.Decides.{nat_tests}
use Rattle.std.proofs.lemmas.Option.{slice_get_cases}
use Rattle.std.proofs.lemmas.List.Elements.{All-nil, All-cons}
use Rattle.std.specs.List.{All}
use Rattle.gup_plain.specs.Note.{NoteValue}
use Rattle.gup_plain.specs.declared.note.Waiting.{Waiting}
use Rattle.gup_script.specs.declared.op.Op.{Op}
use Rattle.gup_script.specs.Script.{ScriptValue, ops_of}
use Rattle.gup_spec_journal.specs.Place.{has_finished}
use Rattle.gup_spec_journal.specs.Follows.{notes_of_turn}
use Rattle.gup_spec_journal.specs.Order.{journal_of}
use Rattle.gup_spec_turns.specs.Run.{RunState, run_start, run_after, turned, core_turn_in, can_go, is_ready, waiting_in}
use Rattle.gup_core.specs.Machine.{MachineValue, Shows, counted}
use Rattle.gup_spec_orders.specs.Orders.{Goes, turns_in, journal_in, told_in}
use Rattle.gup_search.specs.Search.{AreTold, Tells, Stands, TakesToldTurn}
use Rattle.gup_spec_orders.specs.declared.told.Named.{Named}
use Rattle.gup_spec_orders.specs.declared.told.Tell.{Tell}
use Rattle.gup_spec_orders.specs.declared.told.Told.{Told}
use Rattle.gup_search.proofs.Tellings.{told_in-append, told_in-number}

pub turned-append : (script : ScriptValue) (r : RunState) (xs ys : List ℕ) → turned script r (xs ++ ys) ≡ turned script (turned script r xs) ys
turned-append script r [] ys = refl
turned-append script r (a ∷ xs) ys = turned-append script (run_after script r a) xs ys

-- the notes of the actor's turn in this state, if it has this number
abbrev pub notes_in : ScriptValue → (number : ℕ) → RunState → (a : ℕ) → List NoteValue
notes_in script number r a = notes_of_turn number a ((r.places a).answered + 1) (core_turn_in script r a).whats

-- the journal of one turn more, whatever the turn's number
pub journal_on : (script : ScriptValue) (r : RunState) (n : ℕ) (order : List ℕ) (a : ℕ) → (number : ℕ) × (journal_of n r.places (turns_in script r (order ++ a ∷ [])) ≡ journal_of n r.places (turns_in script r order) ++ notes_in script number (turned script r order) a)
journal_on script r n [] a = (n, append-nil (notes_in script n r a))
journal_on script r n (b ∷ order) a =
    let more = journal_on script (run_after script r b) (n + 1) order a in
    let later : List NoteValue = journal_of (n + 1) (run_after script r b).places (turns_in script (run_after script r b) order) in (
      more.0,
      ap (λ (notes : List NoteValue). notes_in script n r b ++ notes) more.1
          ∙ sym (append_assoc (notes_in script n r b) later (notes_in script more.0 (turned script (run_after script r b) order) a)),
    )

-- what is told after one turn more
pub told_on : (script : ScriptValue) (named : List Named) (order : List ℕ) (a number : ℕ) (old new : List Tell) → AreTold named old (journal_in script order) → Tells named old new (notes_in script number (turned script (run_start script) order) a) → AreTold named new (journal_in script (order ++ a ∷ []))
told_on script named order a number old new told tells k name there =
    let r : RunState = turned script (run_start script) order in
    let more = journal_on script (run_start script) 1 order a in
    tells k name there
    ∙ ap (λ (ts : List Told). ts ++ told_in name (notes_in script number r a)) (told k name there)
    ∙ ap (λ (ts : List Told). told_in name (journal_in script order) ++ ts) (told_in-number name number more.0 a ((r.places a).answered + 1) (core_turn_in script r a).whats)
    ∙ sym (told_in-append name (journal_in script order) (notes_in script more.0 r a))
    ∙ ap (λ (notes : List NoteValue). told_in name notes) (sym more.1)

-- A machine that stands behind an order stands behind one turn more after it.
pub stands_on : (script : ScriptValue) (named : List Named) (order : List ℕ) (m n : MachineValue) (a : ℕ) (old new : List Tell) → n.script ≡ m.script → TakesToldTurn named m n a old new → Stands script named order m old → Stands script named (order ++ a ∷ []) n new
stands_on script named order m n a old new kept taken h =
    let r : RunState = turned script (run_start script) order in
    let turn = taken.taken r h.shown in
    let number : ℕ = counted m.turns in
    let said : taken.notes ≡ notes_in script number r a = turn.said ∙ ap (λ (s : ScriptValue). notes_in s number r a) h.same in
    record {
      same = kept ∙ h.same;
      shown =
          subst (λ (s : RunState). Shows n s) (sym (turned-append script (run_start script) order (a ∷ [])))
          (subst (λ (s : ScriptValue). Shows n (run_after s r a)) h.same turn.shown);
      told = told_on script named order a number old new h.told (subst (λ (notes : List NoteValue). Tells named old new notes) said taken.tells);
      in_order = taken.in_order h.in_order;
    }

-- ---- who can go

ready_none : (waiting : Option Waiting) → (not true && is_none waiting) ≡ is_ready None waiting
ready_none waiting = refl

ready_some : (op : Op) (waiting : Option Waiting) → (not false && is_none waiting) ≡ is_ready (Some op) waiting
ready_some op None = refl
ready_some op (Some waiting) = refl

is_past : (n k : ℕ) → n ≤ k → nat_le n k ≡ true
is_past n k past = grind (arith, nat_tests)

is_within : (n k : ℕ) → k < n → nat_le n k ≡ false
is_within n k within = grind (arith, nat_tests)

ready_by : (ops : List Op) (k : ℕ) (waiting : Option Waiting) → (not (nat_le (length ops) k) && is_none waiting) ≡ is_ready (slice_get ops k) waiting
ready_by ops k waiting =
    elim (slice_get_cases ops k).1 [
      | inl w ↦ ap (λ (b : Bool). not b && is_none waiting) (is_within (length ops) k w.1) ∙ ready_some w.0 waiting ∙ ap (λ (o : Option Op). is_ready o waiting) (sym w.2)
      | inr w ↦ ap (λ (b : Bool). not b && is_none waiting) (is_past (length ops) k w.0) ∙ ready_none waiting ∙ ap (λ (o : Option Op). is_ready o waiting) (sym w.1)
    ]

pub can_go_by : (script : ScriptValue) (r : RunState) (a : ℕ) → (not (has_finished script a (r.places a)) && is_none (waiting_in script r a)) ≡ can_go script r a
can_go_by script r a = ready_by (ops_of script a) (r.places a).answered (waiting_in script r a)

-- ---- ways to go

pub goes_on : (script : ScriptValue) (r : RunState) (path : List ℕ) (a : ℕ) → Goes script r path → a < length script.actors → can_go script (turned script r path) a ≡ true → Goes script r (path ++ a ∷ [])
goes_on script r [] a goes below can = (below, can, tt)
goes_on script r (b ∷ path) a goes below can = (goes.0, goes.1, goes_on script (run_after script r b) path a goes.2 below can)

-- whoever takes turns is an actor
pub goes_within : (script : ScriptValue) (r : RunState) (path : List ℕ) → Goes script r path → All (λ (a : ℕ). a < length script.actors) path
goes_within script r [] goes = All-nil (λ (a : ℕ). a < length script.actors)
goes_within script r (a ∷ path) goes = All-cons (λ (b : ℕ). b < length script.actors) a path goes.0 (goes_within script (run_after script r a) path goes.2)
