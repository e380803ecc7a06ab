use Rattle.std.proofs.Common.{◌≡◌, ℕ, Bool, true, false, Option, None, Some, is_some, not, refl, sym, ap, ◌∙◌}
use Rattle.std.specs.Option.{option_or}
use Rattle.gup_plain.specs.declared.note.Waiting.{Waiting}
use Rattle.gup_spec_turns.specs.Waits.{Locks, locks_needed, first_waiting, held_by_other, waits_for_lock, waits_for_locks}
use Rattle.gup_op_waits.specs.Locks.{locks_of, waiting_if}
use Rattle.gup_op_waits.proofs.locks.waits_for_holders.Goals as goal

-- an actor waits for a lock if it needs it and another holds it
lock_by : (needed : Bool) (a : ℕ) (holder : Option ℕ) → waits_for_lock needed a holder ≡ waiting_if needed (held_by_other a holder)
lock_by true a holder = refl
lock_by false a holder = refl

first_of_two : (first second : Option Waiting) → first_waiting first second ≡ option_or first second
first_of_two None second = refl
first_of_two (Some waiting) second = refl

locks_by : (locks : Locks) (a : ℕ) (structure table : Option ℕ)
    → waits_for_locks locks a structure table ≡ option_or (waiting_if locks.structure (held_by_other a structure)) (waiting_if locks.table (held_by_other a table))
locks_by locks a structure table =
    ap (λ (w : Option Waiting). first_waiting w (waits_for_lock locks.table a table)) (lock_by locks.structure a structure)
    ∙ ap (λ (w : Option Waiting). first_waiting (waiting_if locks.structure (held_by_other a structure)) w) (lock_by locks.table a table)
    ∙ first_of_two (waiting_if locks.structure (held_by_other a structure)) (waiting_if locks.table (held_by_other a table))

none_if : (needed : Bool) (waiting : Option Waiting) → waiting ≡ None → waiting_if needed waiting ≡ None
none_if true waiting none = none
none_if false waiting none = refl

-- it waits for nobody where nobody else holds one
free_locks : (locks : Locks) (a : ℕ) (structure table : Option ℕ) → held_by_other a structure ≡ None → held_by_other a table ≡ None → None ≡ waits_for_locks locks a structure table
free_locks locks a structure table no_structure no_table =
    sym
    (locks_by locks a structure table
    ∙ ap (λ (w : Option Waiting). option_or w (waiting_if locks.table (held_by_other a table))) (none_if locks.structure (held_by_other a structure) no_structure)
    ∙ none_if locks.table (held_by_other a table) no_table)

none_of : {X : Type 0} (o : Option X) (none : Bool) → is_some o ≡ not none → none ≡ true → o ≡ None
none_of None none is e = refl
none_of (Some x) none is e = absurd (let some : true ≡ false = is ∙ ap not e in cc)

pub returns-then-is_none-2 : goal.returns-then-is_none-2
returns-then-is_none-2 c s far spaces fits place at =
    let a = c.args.actor in
    let p = c.args.proc in
    let shown = spaces p c.space_at-space.result.now c.space_at-space.ensures in
    let structure = ap (held_by_other a) (shown.structure ∙ sym c.structure.ensures) ∙ sym c.held_by_other-structure.ensures ∙ none_of c.held_by_other-structure.result c.is_none.result c.is_none.ensures c.if-is_none.true in
    let table = ap (held_by_other a) (shown.table ∙ sym c.table.ensures) ∙ sym c.held_by_other-table.ensures ∙ none_of c.held_by_other-table.result c.is_none-then-is_none.result c.is_none-then-is_none.ensures c.if-is_none-2.true in
    free_locks (locks_needed s a p far c.args.op.now) a (s.structure p) (s.table p) structure table

pub returns : goal.returns
returns c s far spaces fits place at =
    let a = c.args.actor in
    let p = c.args.proc in
    let shown = spaces p c.space_at-space.result.now c.space_at-space.ensures in
    let needed = c.locks_needed-locks.ensures s a far spaces fits place at in
    let locks : Locks = locks_of c.locks_needed-locks.result in
    let structure = c.held_by_other-structure.result in
    let table = c.held_by_other-table.result in
    c.or.ensures
    ∙ ap (λ (w : Option Waiting). option_or w c.if_needed-2.result) c.if_needed.ensures
    ∙ ap (λ (w : Option Waiting). option_or (waiting_if locks.structure structure) w) c.if_needed-2.ensures
    ∙ ap (λ (w : Option Waiting). option_or (waiting_if locks.structure w) (waiting_if locks.table table)) c.held_by_other-structure.ensures
    ∙ ap (λ (w : Option Waiting). option_or (waiting_if locks.structure (held_by_other a c.structure.result)) (waiting_if locks.table w)) c.held_by_other-table.ensures
    ∙ sym (locks_by locks a c.structure.result c.table.result)
    ∙ ap (λ (l : Locks). waits_for_locks l a c.structure.result c.table.result) needed
    ∙ ap (λ o. waits_for_locks (locks_needed s a p far c.args.op.now) a o c.table.result) (c.structure.ensures ∙ sym shown.structure)
    ∙ ap (λ o. waits_for_locks (locks_needed s a p far c.args.op.now) a (s.structure p) o) (c.table.ensures ∙ sym shown.table)
