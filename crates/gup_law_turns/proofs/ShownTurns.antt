-- What is shown of the turn of each operation, and what it needs.
use Rattle.std.proofs.Common.{◌≡◌, ℕ, ◌+◌, ◌<◌, ◌⊎◌, length, ◌==◌, if◌then◌else◌, eqb-true, Bool, true, false, List, [], ◌∷◌, ◌++◌, Option, Some, None, refl, ap, sym, subst, inl, inr}
use Rattle.gup_plain.specs.Denial.{is_held_by}
use Rattle.gup_plain.specs.Event.{IsHeldBy, IsGivenTo, given_to, held_by}
use Rattle.gup_plain.specs.State.{born, gone, Birth, failed}
use Rattle.gup_plain.specs.declared.event.PlainEvent.{PlainEvent}
use Rattle.gup_plain.specs.declared.note.What.{What}
use Rattle.gup_plain.specs.declared.note.What.TheVariants.{Done}
use Rattle.gup_plain.specs.declared.note.Waiting.{Waiting}
use Rattle.gup_plain.specs.declared.note.Waiting.TheVariants as waitings
use Rattle.gup_script.specs.declared.op.Op.{Op}
use Rattle.gup_script.specs.declared.op.Op.TheVariants.{Pin, Unpin, Give, Take, Transfer}
use Rattle.gup_spec_events.specs.State.{CoreState, Job, idle, plain_of}
use Rattle.gup_spec_events.specs.Event.{CoreEvent, AreUnlocked, told, run}
use Rattle.gup_law_base.specs.Sound.{IsSound, keeps_table, keeps_structure}
use Rattle.gup_law_events.specs.Law.{with_told, all_told}
use Rattle.gup_spec_journal.specs.Place.{Place, Doer, place_after}
use Rattle.gup_spec_turns.specs.JobPlace.{JobPlace, job_place, place_in, unbegun}
use Rattle.gup_law_turns.specs.Standing.{CopyStands, StandsHandle}
use Rattle.gup_spec_turns.specs.CoreTurn.{CoreTurn}
use Rattle.gup_spec_turns.specs.Waits.{held_by_other, waits_for_locks, first_waiting, both_locks}
use Rattle.gup_spec_turns.proofs.TurnParts.{waits_at}
use Rattle.gup_law_turns.proofs.CalmStates.{IsCalm, Strand, AreTurnEvents}
use Rattle.gup_law_turns.proofs.CountedFrames.{AreCountedThere}
use Rattle.gup_law_turns.proofs.TurnShapes.{references_of, FitsAt, Rests, TurnOf, AtRest, IsDone, child_of, strand_of}
use Rattle.std.specs.Prelude.{◌⊎◌}

-- A state between two turns, in which process p is born.
pub record IsOpen (s : CoreState) (a p : ℕ) : Type 0 where
  pub sound : IsSound s
  pub calm : IsCalm s
  pub there : AreCountedThere s
  pub rest : AtRest s a
  pub copies : CopyStands s a
  pub birth : s.birth p ≡ born

-- the same of an operation that is of no process
pub record IsQuiet (s : CoreState) (a : ℕ) : Type 0 where
  pub sound : IsSound s
  pub calm : IsCalm s
  pub there : AreCountedThere s
  pub rest : AtRest s a
  pub copies : CopyStands s a

-- After notes with an answer the actor is in the middle of nothing; after others it stands where its operation can.
abbrev pub FitsNext : CoreState → Doer → Option Op → Place → List What → Type 0
FitsNext t who op place [] = FitsAt t who op place
FitsNext t who op place (Done answer ∷ whats) = Rests t who.actor
FitsNext t who op place (what ∷ whats) = FitsNext t who op (place_after place what) whats

-- What a turn makes of the pin that its operation names. A pin makes it with all its pages, or leaves it unmade; an unpin
-- gives back one page, with the last of which it is gone; a give and a take leave its pages.
abbrev pub MakesPin : (s t : CoreState) → (a : ℕ) → Op → Type 0
MakesPin s t a (Pin handle page n want fast) =
    (t.handle handle ≡ s.handle handle) × (t.pinned handle ≡ s.pinned handle)
    ⊎ IsHeldBy (t.handle handle) a × StandsHandle (λ b. 0) (t.pinned handle) (t.handle handle)
MakesPin s t a (Unpin handle) =
    (t.handle handle ≡ s.handle handle) × (t.pinned handle ≡ s.pinned handle) × (is_held_by (s.handle handle) a ≡ false)
    ⊎ (t.handle handle ≡ gone) × (t.pinned handle ≡ [])
    ⊎ (t.handle handle ≡ s.handle handle) × (0 < length (t.pinned handle))
    × (length (t.pinned handle) + 1 ≡ length (s.pinned handle))
MakesPin s t a (Give handle to) =
    (t.pinned handle ≡ s.pinned handle)
    × ((t.handle handle ≡ s.handle handle)
    ⊎ IsHeldBy (s.handle handle) a × (t.handle handle ≡ given_to (s.handle handle) to))
MakesPin s t a (Take handle) =
    (t.pinned handle ≡ s.pinned handle) × IsGivenTo (s.handle handle) a
    × (t.handle handle ≡ held_by (s.handle handle) a)
MakesPin s t a (Transfer handle outward slot parts) = (t.handle ≡ s.handle) × (t.pinned ≡ s.pinned)
MakesPin s t a op = Unit {0}

-- the turn can be done, it has its shape, and the actor stands right after it
pub record IsTurned (s : CoreState) (who : Doer) (place : Place) (op : Op) (turn : CoreTurn) : Type 0 where
  pub done : IsDone s who.actor who.proc (child_of who.proc (Some op)) (strand_of (Some op)) turn
  pub shape : TurnOf (plain_of s) (references_of s) who place op (place_in s who.actor) turn.whats (place_in (run s turn.events) who.actor)
  pub next : FitsNext (run s turn.events) who (Some op) place turn.whats
  pub pin : MakesPin s (run s turn.events) who.actor op

-- an actor that is in the middle of nothing has begun no fork
pub idle_place : (s : CoreState) (a : ℕ) → s.job a ≡ idle → place_in s a ≡ unbegun
idle_place s a job = ap (λ (j : Job). job_place j (s.prepared a)) job

-- where the actor is in the middle of nothing before and after, the turn is none of a fork that has begun
pub shape_idle : (s t : CoreState) (who : Doer) (place : Place) (op : Op) (whats : List What) → s.job who.actor ≡ idle → t.job who.actor ≡ idle → TurnOf (plain_of s) (references_of s) who place op unbegun whats unbegun → TurnOf (plain_of s) (references_of s) who place op (place_in s who.actor) whats (place_in t who.actor)
shape_idle s t who place op whats before behind shape =
    subst (λ (from : JobPlace). TurnOf (plain_of s) (references_of s) who place op from whats (place_in t who.actor)) (sym (idle_place s who.actor before))
    (subst (λ (to : JobPlace). TurnOf (plain_of s) (references_of s) who place op unbegun whats to) (sym (idle_place t who.actor behind)) shape)

-- locks

-- a needed lock that keeps nobody waiting is free, or the actor's own
free_or_own : (a : ℕ) (holder : Option ℕ) → held_by_other a holder ≡ None → (holder ≡ Some a → ⊥) → holder ≡ None
free_or_own a None free own = refl
free_or_own a (Some b) free own = absurd (own (own_lock (a == b) refl free))
  where
    own_lock : (same : Bool) → (a == b) ≡ same → (if same then None else Some (waitings.Holder b)) ≡ None → Some b ≡ Some a
    own_lock true e now = ap (λ (k : ℕ). Some k) (sym (eqb-true a b e))
    own_lock false e now = absurd (cc now)

-- an actor that keeps no table lock finds it free
pub table_free : (s : CoreState) (a p : ℕ) → IsSound s → keeps_table (s.job a) ≡ None → held_by_other a (s.table p) ≡ None → s.table p ≡ None
table_free s a p sound keeps free =
    free_or_own a (s.table p) free (λ own. let held : keeps_table (s.job a) ≡ Some p = sound.1.table_held p a own in cc)

structure_free : (s : CoreState) (a p : ℕ) → IsSound s → keeps_structure (s.job a) ≡ None → held_by_other a (s.structure p) ≡ None → s.structure p ≡ None
structure_free s a p sound keeps free =
    free_or_own a (s.structure p) free (λ own. let held : keeps_structure (s.job a) ≡ Some p = sound.1.structure_held p a own in cc)

both_waits : (first second : Option Waiting) → first_waiting first second ≡ None → (first ≡ None) × (second ≡ None)
both_waits None second is = (refl, is)
both_waits (Some waiting) second is = absurd (cc is)

-- where an actor that is in the middle of nothing needs both locks and doesn't wait, both are free
pub both_free : (s : CoreState) (a p : ℕ) → IsSound s → s.job a ≡ idle → waits_for_locks both_locks a (s.structure p) (s.table p) ≡ None → AreUnlocked s p
both_free s a p sound job free =
    let waits = both_waits (held_by_other a (s.structure p)) (held_by_other a (s.table p)) free in
    (structure_free s a p sound (ap keeps_structure job) waits.0, table_free s a p sound (ap keeps_table job) waits.1)

-- events one after another

pub kinds_behind : (a p c : ℕ) (strand : Strand) (before es : List CoreEvent) → AreTurnEvents a p c strand before → AreTurnEvents a p c strand es → AreTurnEvents a p c strand (before ++ es)
kinds_behind a p c strand [] es kinds more = more
kinds_behind a p c strand (e ∷ before) es kinds more = (kinds.0, kinds_behind a p c strand before es kinds.1 more)

pub told_behind : (before es : List CoreEvent) → all_told before ≡ [] → all_told (before ++ es) ≡ all_told es
told_behind [] es none = refl
told_behind (e ∷ before) es none = go (told e) refl none (told_behind before es)
  where
    go : (t : Option PlainEvent) → told e ≡ t → with_told t (all_told before) ≡ [] → (all_told before ≡ [] → all_told (before ++ es) ≡ all_told es) → with_told (told e) (all_told (before ++ es)) ≡ all_told es
    go None is now later = rw is (later now)
    go (Some x) is now later = absurd (cc now)

-- an actor goes on only once it waits for no birth: its process is born, or failed
pub waits_no_birth : (b : Birth) (p : ℕ) (others : Option Waiting) → waits_at b p others ≡ None → (b ≡ born) ⊎ (b ≡ failed)
waits_no_birth born p others free = inl refl
waits_no_birth failed p others free = inr refl
waits_no_birth b p others free = absurd (cc free)
