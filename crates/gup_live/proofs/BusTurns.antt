-- A turn more on a bus.
use Rattle.std.proofs.Common.{◌≡◌, ℕ, ◌+◌, ◌^◌, ◌-◌, ◌<◌, ◌≤◌, true, List, [], ◌∷◌, ◌++◌, length, refl, sym, ap, subst, ◌∙◌, suc, arith, append_assoc, append-nil, length-append}
use Rattle.std.proofs.lemmas.Bool.Decides.{nat_tests}
use Rattle.gup_plain.specs.Note.{NoteValue, JournalValue}
use Rattle.gup_script.specs.Script.{ScriptValue}
use Rattle.gup_script.specs.Valid.{IsScript}
use Rattle.gup_spec_journal.specs.Follows.{notes_of_turn}
use Rattle.gup_spec_journal.specs.Order.{journal_of}
use Rattle.gup_spec_orders.specs.Orders.{Goes, turns_in, journal_in}
use Rattle.gup_spec_turns.specs.Cost.{cost}
use Rattle.gup_spec_turns.specs.Run.{RunState, run_start, run_after, turned, core_turn_in, can_go}
use Rattle.gup_law_turns.specs.Standing.{IsStanding}
use Rattle.gup_core.specs.Machine.{MachineValue, Shows, TakesTurn, counted}
use Rattle.gup_core.specs.Going.{Advances}
use Rattle.gup_core.specs.declared.outcome.Advanced.{Advanced}
use Rattle.gup_core.specs.declared.outcome.Advanced.TheVariants.{Moved}
use Rattle.gup_core.specs.declared.outcome.Woken.{Woken}
use Rattle.gup_live.specs.Bus.{IsBus}

turned_on : (script : ScriptValue) (r : RunState) (order : List ℕ) (a : ℕ) → turned script r (order ++ a ∷ []) ≡ run_after script (turned script r order) a
turned_on script r [] a = refl
turned_on script r (b ∷ order) a = turned_on script (run_after script r b) order a

goes_on : (script : ScriptValue) (r : RunState) (order : List ℕ) (a : ℕ) → a < length script.actors → can_go script (turned script r order) a ≡ true → Goes script r order → Goes script r (order ++ a ∷ [])
goes_on script r [] a below goes so_far = (below, goes, tt)
goes_on script r (b ∷ order) a below goes so_far = (so_far.0, so_far.1, goes_on script (run_after script r b) order a below goes so_far.2)

-- what the actor's turn tells, which has this number
abbrev told_at : ScriptValue → RunState → (number a : ℕ) → List NoteValue
told_at script r number a = notes_of_turn number a ((r.places a).answered + 1) (core_turn_in script r a).whats

abbrev journal_from : ScriptValue → RunState → (number : ℕ) → (order : List ℕ) → List NoteValue
journal_from script r number order = journal_of number r.places (turns_in script r order)

journal_on : (script : ScriptValue) (r : RunState) (number : ℕ) (order : List ℕ) (a : ℕ) → journal_from script r number (order ++ a ∷ []) ≡ journal_from script r number order ++ told_at script (turned script r order) (number + length order) a
journal_on script r number [] a =
    let same : number ≡ number + length {A = ℕ} [] = omega arith in
    append-nil (told_at script r number a) ∙ ap (λ (n : ℕ). told_at script r n a) same
journal_on script r number (b ∷ order) a =
    let first : List NoteValue = told_at script r number b in
    let same : (number + 1) + length order ≡ number + suc (length order) = omega arith in
    ap (λ (notes : List NoteValue). first ++ notes)
    (
    journal_on script (run_after script r b) (number + 1) order a
    ∙ ap (λ (n : ℕ). journal_from script (run_after script r b) (number + 1) order ++ told_at script (turned script (run_after script r b) order) n a) same
    )
    ∙ sym (append_assoc first (journal_from script (run_after script r b) (number + 1) order) (told_at script (turned script (run_after script r b) order) (number + suc (length order)) a))

counted_on : (m turns : ℕ) → m ≡ turns → turns + 1 < 2 ^ 32 → counted m ≡ turns + 1
counted_on m turns are few = grind (arith, nat_tests)

one_more : (order : List ℕ) (a : ℕ) → length (order ++ a ∷ []) ≡ length order + 1
one_more order a = let l = length-append order (a ∷ []) in omega (arith, l)

-- what the laws of costs say of a turn
pub record HasCosts (script : ScriptValue) : Type 0 where
  pub spent : (r : RunState) (a : ℕ) → IsStanding script r → can_go script r a ≡ true → cost script (run_after script r a) < cost script r
  pub few : cost script (run_start script) < 2 ^ 32 - 1
  pub stand : (order : List ℕ) → IsStanding script (turned script (run_start script) order)

pub has_costs : (script : ScriptValue) → IsScript script
    → ((s : ScriptValue) (r : RunState) (a : ℕ) → IsScript s → IsStanding s r → can_go s r a ≡ true → cost s (run_after s r a) < cost s r)
    → ((s : ScriptValue) → IsScript s → length s.turns + cost s (run_start s) < 2 ^ 32 - 1)
    → ((s : ScriptValue) (order : List ℕ) → IsScript s → IsStanding s (turned s (run_start s) order))
    → HasCosts script
has_costs script valid spent few stand =
    record {
      spent = λ r a stands goes. spent script r a valid stands goes;
      few = let all = few script valid in omega (arith, all);
      stand = λ order. stand script order valid;
    }

bus_turn : (script : ScriptValue) (m n : MachineValue) (order : List ℕ) (was told : List NoteValue) (a : ℕ) → HasCosts script → a < length script.actors → can_go script (turned script (run_start script) order) a ≡ true → n.script ≡ m.script → TakesTurn m n a (turned script (run_start script) order) told → IsBus script m order was → IsBus script n (order ++ a ∷ []) (was ++ told)
bus_turn script m n order was told a costs below goes kept taken bus =
    let start : RunState = run_start script in
    let r : RunState = turned script start order in
    let spent = costs.spent r a (costs.stand order) goes in
    let cheap = bus.cheap in
    let least = costs.few in
    let few : length order + 1 < 2 ^ 32 = omega (arith, spent, cheap, least) in
    let number : counted m.turns ≡ length order + 1 = counted_on m.turns (length order) bus.count few in
    let placed : length order + 1 ≡ 1 + length order = omega arith in
    let said : told ≡ told_at script r (1 + length order) a =
    taken.said
    ∙ ap (λ (k : ℕ). told_at m.script r k a) (number ∙ placed)
    ∙ ap (λ (s : ScriptValue). told_at s r (1 + length order) a) bus.same in
    let after : run_after script r a ≡ turned script start (order ++ a ∷ []) = sym (turned_on script start order a) in
    let longer = one_more order a in
    record {
      valid = bus.valid;
      same = kept ∙ bus.same;
      goes = goes_on script start order a below goes bus.goes;
      shown =
          subst (λ (s : RunState). Shows n s) after
          (subst (λ (s : ScriptValue). Shows n (run_after s r a)) bus.same taken.shown);
      told =
          ap (λ (notes : List NoteValue). notes ++ told) bus.told
          ∙ ap (λ (notes : List NoteValue). journal_in script order ++ notes) said
          ∙ sym (journal_on script start 1 order a);
      count = taken.counts ∙ number ∙ sym longer;
      cheap =
          subst (λ (s : RunState). length (order ++ a ∷ []) + cost script s ≤ cost script start) after (omega (arith, spent, cheap, longer));
    }

-- the actor could go
went : (script : ScriptValue) (m n : MachineValue) (was is : JournalValue) (order : List ℕ) (a : ℕ) (advanced : Advanced) (woken : Woken) → advanced ≡ Moved woken → Advances m n was is a advanced → IsBus script m order was.notes → can_go script (turned script (run_start script) order) a ≡ true
went script m n was is order a advanced woken moved advances bus =
    let r : RunState = turned script (run_start script) order in
    let goes = (subst (λ (x : Advanced). Advances m n was is a x) moved advances).0 r bus.shown in
    subst (λ (s : ScriptValue). can_go s r a ≡ true) bus.same goes

-- and its turn is one more of the bus
pub bus_on : (script : ScriptValue) (m n : MachineValue) (was is : JournalValue) (order after : List ℕ) (a : ℕ) (advanced : Advanced) (woken : Woken) → advanced ≡ Moved woken → Advances m n was is a advanced → (kept : List ℕ) → kept ≡ order → after ≡ kept ++ a ∷ [] → HasCosts script → a < length script.actors → n.script ≡ m.script → IsBus script m order was.notes → IsBus script n after is.notes
bus_on script m n was is order after a advanced woken moved advances kept same more costs below own bus =
    let longer : after ≡ order ++ a ∷ [] = more ∙ ap (λ (xs : List ℕ). xs ++ a ∷ []) same in
    let r : RunState = turned script (run_start script) order in
    let taken = (subst (λ (x : Advanced). Advances m n was is a x) moved advances).1 r bus.shown in
    let goes = went script m n was is order a advanced woken moved advances bus in
    subst (λ (notes : List NoteValue). IsBus script n after notes) (sym taken.1)
    (subst (λ (xs : List ℕ). IsBus script n xs (was.notes ++ taken.0)) (sym longer) (bus_turn script m n order was.notes taken.0 a costs below goes own taken.2 bus))
