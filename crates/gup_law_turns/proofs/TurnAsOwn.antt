-- A turn is that of its operation by itself, but for page tables: in a state with other tables, and it leads to what that leads to.
use Rattle.std.proofs.Common.{◌≡◌, ℕ, ◌+◌, List, [], ◌∷◌, ◌++◌, append-nil, Option, Some, None, refl, ap, ◌∙◌}
use Rattle.gup_base.specs.declared.entry.Rights.{Rights}
use Rattle.gup_plain.specs.Event.{page_numbers}
use Rattle.gup_plain.specs.State.{Birth, Noted, born, failed}
use Rattle.gup_plain.specs.declared.note.What.TheVariants.{Idle, Wait}
use Rattle.gup_plain.specs.declared.note.Waiting.{Waiting}
use Rattle.gup_script.specs.declared.op.Op.{Op}
use Rattle.gup_script.specs.declared.op.Op.TheVariants.{Unmap, Load, Store, Pin, Get, Mirror, Fork, Exit}
use Rattle.gup_spec_events.specs.State.{CoreState, Job, forking}
use Rattle.gup_spec_events.specs.Event.{CoreEvent, run}
use Rattle.gup_law_tables.specs.Standing.{IsButForTables}
use Rattle.gup_spec_journal.specs.Place.{Doer, birth_for}
use Rattle.gup_spec_turns.specs.CoreTurn.{CoreTurn}
use Rattle.gup_spec_turns.specs.Emptying.{left_in}
use Rattle.gup_spec_turns.specs.PageTurns.{lowest_page}
use Rattle.gup_spec_turns.specs.TableTurns.{Spot, if_mapped, grown_by, grows_at, retires_at, retires_mapped, if_failed, fork_shrinks, lowest_spot, shrinks_by}
use Rattle.gup_spec_turns.specs.Turn.{own_turn, unless_failed, grows_for, shrinks_for, behind_growth, turn_of}
use Rattle.gup_law_turns.proofs.TableLists.{AreTableEvents, grows_are, retires_are, all_mapped_are}
use Rattle.gup_law_turns.proofs.TabledTurns.{at_first, at_last, left_alike}

-- events of the tables of some process
record OfTables (a : ℕ) (es : List CoreEvent) : Type 0 where
  proc : ℕ
  are : AreTableEvents a proc es

none_of_tables : (a : ℕ) → OfTables a []
none_of_tables a = record { proc = 0; are = tt }

grown_of_tables : (s : CoreState) (a : ℕ) (at : Option Spot) → OfTables a (grows_at s a at)
grown_of_tables s a None = none_of_tables a
grown_of_tables s a (Some at) = record { proc = at.proc; are = grows_are s a at.proc at.page }

retired_of_tables : (s : CoreState) (a : ℕ) (at : Option Spot) → OfTables a (retires_at s a at)
retired_of_tables s a None = none_of_tables a
retired_of_tables s a (Some at) = record { proc = at.proc; are = retires_are s a at.proc at.page }

fork_of_tables : (s : CoreState) (a c : ℕ) (right : ℕ → Option Rights) (job : Job) → OfTables a (fork_shrinks s a c right job)
fork_of_tables s a c right (forking q d done step) = by_birth (s.birth c)
  where
    by_birth : (birth : Birth) → OfTables a (if_failed birth (retires_mapped s a c right 0 page_numbers))
    by_birth failed = record { proc = c; are = all_mapped_are s a c right 0 page_numbers }
    by_birth birth = none_of_tables a
fork_of_tables s a c right job = none_of_tables a

shrunk_of_tables : (s t : CoreState) (a p far : ℕ) (op : Op) → OfTables a (shrinks_by s t a p far op)
shrunk_of_tables s t a p far (Unmap page n) = retired_of_tables t a (if_mapped p (page + far) (s.right p (page + far)))
shrunk_of_tables s t a p far Exit = retired_of_tables t a (lowest_spot p (lowest_page (s.right p)))
shrunk_of_tables s t a p far (Fork child) = fork_of_tables t a child (t.right p) (s.job a)
shrunk_of_tables s t a p far op = none_of_tables a

unfailed_of_tables : (a : ℕ) (es : List CoreEvent) (birth : Birth) → OfTables a es → OfTables a (unless_failed es birth)
unfailed_of_tables a [] birth are = none_of_tables a
unfailed_of_tables a (e ∷ es) failed are = none_of_tables a
unfailed_of_tables a (e ∷ es) birth are = are

-- what the turn is, but for tables
pub record AsOwn (s : CoreState) (who : Doer) (far : ℕ) (op : Op) : Type 0 where
  -- the state in which the operation's own turn is taken
  pub state : CoreState
  pub grown : state ≡ run s (grows_for s who far op)
  pub before : IsButForTables s state
  pub whats : (turn_of s who far op).whats ≡ (own_turn state who far op).whats
  pub after : IsButForTables (run state (own_turn state who far op).events) (run s (turn_of s who far op).events)
  pub left : (frame : Option ℕ) (noted : Option Noted) → left_in (turn_of s who far op).events frame noted ≡ left_in (own_turn state who far op).events frame noted

pub as_own : (s : CoreState) (who : Doer) (far : ℕ) (op : Op) → AsOwn s who far op
as_own s who far op =
    let a : ℕ = who.actor in
    let growth : List CoreEvent = grows_for s who far op in
    let grown : OfTables a growth = unfailed_of_tables a (grows_at s a (grown_by s a who.proc far op)) (birth_for s.birth who) (grown_of_tables s a (grown_by s a who.proc far op)) in
    let t : CoreState = run s growth in
    let turn : CoreTurn = own_turn t who far op in
    let u : CoreState = run t turn.events in
    let shrinks : List CoreEvent = shrinks_for t u who far op in
    let shrunk : OfTables a shrinks = unfailed_of_tables a (shrinks_by t u a who.proc far op) (birth_for t.birth who) (shrunk_of_tables t u a who.proc far op) in
    record {
      state = t;
      grown = refl;
      before = at_first s a grown.proc shrunk.proc growth turn shrinks grown.are shrunk.are;
      whats = refl;
      after = at_last s a grown.proc shrunk.proc growth turn shrinks grown.are shrunk.are;
      left = left_alike s a grown.proc shrunk.proc growth turn shrinks grown.are shrunk.are;
    }

-- where no tables change, it is that turn
pub unless_born : (es : List CoreEvent) → unless_failed es born ≡ es
unless_born [] = refl
unless_born (e ∷ es) = refl

pub unless_lost : (es : List CoreEvent) → unless_failed es failed ≡ []
unless_lost [] = refl
unless_lost (e ∷ es) = refl

none_behind : (turn : CoreTurn) → ◌≡◌ {A = CoreTurn} (record { events = turn.events ++ []; whats = turn.whats }) turn
none_behind turn = ap (λ (es : List CoreEvent). record { events = es; whats = turn.whats }) (append-nil turn.events)

-- of a failed process
pub lost_own : (s : CoreState) (who : Doer) (far : ℕ) (op : Op) → birth_for s.birth who ≡ failed → turn_of s who far op ≡ own_turn s who far op
lost_own s who far op lost =
    let turn : CoreTurn = own_turn s who far op in
    let growth : grows_for s who far op ≡ [] = ap (unless_failed (grows_at s who.actor (grown_by s who.actor who.proc far op))) lost ∙ unless_lost (grows_at s who.actor (grown_by s who.actor who.proc far op)) in
    let shrinks : shrinks_for s (run s turn.events) who far op ≡ [] = ap (unless_failed (shrinks_by s (run s turn.events) who.actor who.proc far op)) lost ∙ unless_lost (shrinks_by s (run s turn.events) who.actor who.proc far op) in
    ap (λ (es : List CoreEvent). behind_growth s es who far op) growth
    ∙ ap (λ (es : List CoreEvent). record { events = turn.events ++ es; whats = turn.whats }) shrinks
    ∙ none_behind turn

-- of an operation that changes none
abbrev pub ChangesNoTables : Op → Type 0
ChangesNoTables (Unmap page n) = ⊥
ChangesNoTables (Load page word) = ⊥
ChangesNoTables (Store page word value) = ⊥
ChangesNoTables (Pin handle page n want fast) = ⊥
ChangesNoTables (Get handle page) = ⊥
ChangesNoTables (Mirror mirror proc page) = ⊥
ChangesNoTables (Fork child) = ⊥
ChangesNoTables Exit = ⊥
ChangesNoTables op = Unit {0}

pub idle_own : (s : CoreState) (who : Doer) (far : ℕ) (op : Op) → ChangesNoTables op → turn_of s who far op ≡ own_turn s who far op
idle_own s who far (Unmap page n) none = absurd none
idle_own s who far (Load page word) none = absurd none
idle_own s who far (Store page word value) none = absurd none
idle_own s who far (Pin handle page n want fast) none = absurd none
idle_own s who far (Get handle page) none = absurd none
idle_own s who far (Mirror mirror proc page) none = absurd none
idle_own s who far (Fork child) none = absurd none
idle_own s who far Exit none = absurd none
idle_own s who far op none = none_behind (own_turn s who far op)

-- idle where the actor has finished, without an event where it waits, else that of its operation by itself
abbrev pub own_by : CoreState → Doer → (far : ℕ) → Option Op → Option Waiting → CoreTurn
own_by s who far None waiting = record { events = []; whats = Idle ∷ [] }
own_by s who far (Some op) (Some waiting) = record { events = []; whats = Wait waiting ∷ [] }
own_by s who far (Some op) None = own_turn s who far op
