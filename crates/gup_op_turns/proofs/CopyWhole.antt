-- A turn that copies a word of a page changes no page tables.
use Rattle.std.proofs.Common.{◌≡◌, ℕ, ◌+◌, ◌<◌, nat_lt, Bool, true, false, List, [], ◌++◌, append-nil, length, Option, Some, None, IfSome, refl, sym, ap, ◌∙◌, subst}
use Rattle.gup_base.specs.declared.entry.Rights.{Rights}
use Rattle.gup_plain.specs.Event.{page_numbers, words}
use Rattle.gup_plain.specs.State.{Birth as CoreBirth, born, growing}
use Rattle.gup_plain.specs.declared.note.What.{What}
use Rattle.gup_script.specs.declared.op.Op.{Op}
use Rattle.gup_script.specs.declared.op.Op.TheVariants.{Fork}
use Rattle.gup_spec_events.specs.State.{CoreState, Job, idle, forking, between, counted, copying}
use Rattle.gup_spec_events.specs.Event.{CoreEvent, run}
use Rattle.gup_spec_journal.specs.Place.{Doer, birth_by, birth_for}
use Rattle.gup_spec_turns.specs.CoreTurn.{CoreTurn}
use Rattle.gup_spec_turns.specs.Emptying.{emptying}
use Rattle.gup_spec_turns.specs.ForkTurns.{fork_turn, copying_turn, copy_turn}
use Rattle.gup_spec_turns.specs.JobPlace.{job_place, place_in, at_word, StandsFork}
use Rattle.gup_spec_turns.specs.TableTurns.{Spot, grows_at, forks_grow, fork_shrinks, if_failed, retires_mapped}
use Rattle.gup_spec_turns.specs.Turn.{own_turn, failed_turn, turn_at, turn_of, behind_growth, grows_for, shrinks_for, unless_failed}
use Rattle.gup_spec_turns.proofs.Unseen.{emptying_unseen}
use Rattle.gup_op_base.specs.Jobs.{place_of}
use Rattle.gup_op_base.specs.Turns.{Leads}
use Rattle.gup_op_base.specs.declared.jobs.JobPlace.{JobPlace}
use Rattle.gup_op_waits.specs.Doers.{IsProcessOf}
use Rattle.gup_op_waits.specs.Parts.{ShowsBirths}
use Rattle.gup_op_waits.specs.declared.births.Birth.{Birth}
use Rattle.gup_op_waits.specs.declared.births.Birth.TheVariants.{Born}
use Rattle.gup_op_waits.specs.declared.parts.Parts.{Parts}
use Rattle.gup_notify.specs.Mirrors.{MirrorsValue}
use Rattle.gup_tables.specs.Pool.{PoolValue}
use Rattle.gup_op_turns.specs.declared.copies.WordCopy.{WordCopy}
use Rattle.gup_op_turns.specs.Copies.{IsCopyAt}
use Rattle.gup_op_turns.specs.Goes.{ShowsWhole, TakesOwnMirrors, TakesMirrors, all_view, whole_view}
use Rattle.gup_law_turns.specs.Slots.{EmptiesSlots}
use Rattle.gup_notify.specs.Shows.{ShowsMirrors}
use Rattle.gup_op_waits.specs.Births.{HasFailed}
use Rattle.gup_op_turns.proofs.Turning.{IsTurnWith, IsTurnWhole}

-- ---- what such a turn leaves

record Unmoved (s t : CoreState) : Type 0 where
  birth : t.birth ≡ s.birth
  free : t.free_table ≡ s.free_table

-- the events of a word that is copied, or of the copy that goes into the child's entry
word_leaves : (s : CoreState) (a p child page word to : ℕ) (job : Job) → at_word page word to ≡ job_place job (s.prepared a) → Unmoved s (run s (fork_turn s a p child job).events)
word_leaves s a p child page word to idle is = absurd (cc)
word_leaves s a p child page word to (forking q c done between) is = absurd (cc)
word_leaves s a p child page word to (forking q c done (counted g)) is = absurd (cc)
word_leaves s a p child page word to (forking q c done (copying g w)) is = by_frame (s.prepared a) is
  where
    by_more : (f : ℕ) (more : Bool) → Unmoved s (run s (copy_turn s a p child done g w f more).events)
    by_more f true = record { birth = refl; free = refl }
    by_more f false = record { birth = refl; free = refl }

    by_frame : (prepared : Option ℕ) → at_word page word to ≡ job_place (forking q c done (copying g w)) prepared → Unmoved s (run s (copying_turn s a p child done g w prepared).events)
    by_frame None at = absurd (cc)
    by_frame (Some f) at = by_more f (nat_lt w words)
word_leaves s a p child page word to (forking q c done step) is = record { birth = refl; free = refl }
word_leaves s a p child page word to job is = record { birth = refl; free = refl }

-- no page is made ready by it
grows_none : (child page word to : ℕ) (job : Job) (prepared : Option ℕ) → at_word page word to ≡ job_place job prepared → forks_grow child job prepared ≡ None
grows_none child page word to (forking q c done (counted g)) prepared is = absurd (cc)
grows_none child page word to (forking q c done (copying g w)) None is = absurd (cc)
grows_none child page word to (forking q c done (copying g w)) (Some f) is = refl
grows_none child page word to (forking q c done step) prepared is = refl
grows_none child page word to job prepared is = refl

-- its child is born by and by
child_grows : (s : CoreState) (a p child page word to : ℕ) (job : Job) (prepared : Option ℕ) → at_word page word to ≡ job_place job prepared → StandsFork s a p child job prepared → s.birth child ≡ growing p
child_grows s a p child page word to idle prepared is stands = absurd (cc)
child_grows s a p child page word to (forking q c done between) prepared is stands = absurd (cc)
child_grows s a p child page word to (forking q c done (counted g)) prepared is stands = absurd (cc)
child_grows s a p child page word to (forking q c done (copying g w)) prepared is stands = stands.0.birth
child_grows s a p child page word to (forking q c done step) prepared is stands = absurd stands
child_grows s a p child page word to job prepared is stands = absurd stands

-- and such a child keeps its tables
shrinks_none : (t : CoreState) (a c p : ℕ) (right : ℕ → Option Rights) (job : Job) → t.birth c ≡ growing p → fork_shrinks t a c right job ≡ []
shrinks_none t a c p right (forking q d done step) is = ap (λ (b : CoreBirth). if_failed b (retires_mapped t a c right 0 page_numbers)) is
shrinks_none t a c p right job is = refl

-- ---- so the turn is the operation's own

-- The turn is that of its operation by itself, and leaves the free tables.
record IsLone (s : CoreState) (who : Doer) (k : ℕ) (op : Op) : Type 0 where
  same : turn_of s who k op ≡ own_turn s who k op
  free : (run s (own_turn s who k op).events).free_table ≡ s.free_table

forks_alone : (s : CoreState) (who : Doer) (k child page word to : ℕ) → birth_for s.birth who ≡ born → at_word page word to ≡ place_in s who.actor
    → StandsFork s who.actor who.proc child (s.job who.actor) (s.prepared who.actor) → IsLone s who k (Fork child)
forks_alone s who k child page word to is_born at stands =
    let a : ℕ = who.actor in
    let op : Op = Fork child in
    let fork : CoreTurn = fork_turn s a who.proc child (s.job a) in
    let turn : CoreTurn = own_turn s who k op in
    let is : turn ≡ emptying s a fork = ap (λ (b : CoreBirth). emptying s a (turn_at b (failed_turn a who.proc op) fork)) is_born in
    let left : Unmoved s (run s fork.events) = word_leaves s a who.proc child page word to (s.job a) at in
    let unseen = emptying_unseen s a fork in
    let after : CoreState = run s turn.events in
    let behind : run s turn.events ≡ run s (emptying s a fork).events = ap (λ (u : CoreTurn). run s u.events) is in
    let births : after.birth ≡ s.birth = ap (λ (x : CoreState). x.birth) (behind ∙ unseen) ∙ left.birth in
    let growth : grows_for s who k op ≡ [] =
    ap (λ (at : Option Spot). unless_failed (grows_at s a at) (birth_for s.birth who)) (grows_none child page word to (s.job a) (s.prepared a) at) in
    let grows : after.birth child ≡ growing who.proc = ap (λ (f : ℕ → CoreBirth). f child) births ∙ child_grows s a who.proc child page word to (s.job a) (s.prepared a) at stands in
    let shrinks : shrinks_for s after who k op ≡ [] =
    ap (λ (es : List CoreEvent). unless_failed es (birth_for s.birth who)) (shrinks_none after a child who.proc (after.right who.proc) (s.job a) grows) in
    record {
      same =
          ap (λ (es : List CoreEvent). behind_growth s es who k op) growth
          ∙ ap (λ (es : List CoreEvent). record { events = turn.events ++ es; whats = turn.whats }) shrinks
          ∙ ap (λ (es : List CoreEvent). record { events = es; whats = turn.whats }) (append-nil turn.events);
      free = ap (λ (x : CoreState). x.free_table) (behind ∙ unseen) ∙ left.free;
    }

word_alone : (births : List Birth) (a k : ℕ) (proc : Option ℕ) (op : Op) (place : JobPlace) (copy : WordCopy) (s : CoreState) (who : Doer) → IsCopyAt births proc place op copy
    → ShowsBirths births s → who.actor ≡ a → IsProcessOf who proc → place_of place ≡ place_in s a
    → ((child : ℕ) → op ≡ Fork child → StandsFork s a who.proc child (s.job a) (s.prepared a)) → IsLone s who k op
word_alone births a k proc op place copy s who is shown own of_who job fork =
    let of_copy : IsProcessOf who (Some copy.proc) = subst (λ (o : Option ℕ). IsProcessOf who o) is.proc_is of_who in
    let at : at_word copy.page copy.word copy.to ≡ place_in s who.actor = ap place_of (sym is.stands) ∙ job ∙ ap (λ (b : ℕ). place_in s b) (sym own) in
    let is_born : birth_for s.birth who ≡ born =
    ap (λ (t : Bool). birth_by t (s.birth who.proc)) of_copy.0 ∙ ap (λ (p : ℕ). s.birth p) of_copy.1 ∙ shown copy.proc Born is.is_born in
    let stands = subst (λ (b : ℕ). StandsFork s b who.proc copy.child (s.job b) (s.prepared b)) (sym own) (fork copy.child is.is_fork) in
    subst (λ (o : Op). IsLone s who k o) (sym is.is_fork) (forks_alone s who k copy.child copy.page copy.word copy.to is_born at stands)

pub copy_whole : (mirrors : MirrorsValue) (old new : Parts) (pool : PoolValue) (a : ℕ) (proc : Option ℕ) (far : ℕ) (op : Op) (place : JobPlace) (copy : WordCopy) (whats : List What) (next : JobPlace)
    → (HasFailed old.births.items proc → ⊥) → IfSome proc (λ p. p < length old.births.items) → IsCopyAt old.births.items proc place op copy
    → IsTurnWith mirrors old new a proc far op place whats next → IsTurnWhole mirrors old new pool pool a proc far op place whats next
copy_whole mirrors old new pool a proc far op place copy whats next unfailed within is turn who k others left own of_who slots far_is s shown stands =
    let led = turn who k others left own of_who slots far_is s shown.all stands in
    let alone = word_alone old.births.items a k proc op place copy s who is shown.all.parts.births own of_who shown.all.job stands.free.at.fork in
    subst (λ (t : CoreTurn). Leads (ShowsWhole a op) (whole_view (all_view new next others left) pool) s t whats) (sym alone.same)
    (record { says = led.says; shown = record { all = led.shown; pool = alone.free ∙ shown.pool } })

pub copy_mirrors_whole : (parts : Parts) (pool : PoolValue) (a : ℕ) (proc : Option ℕ) (far : ℕ) (op : Op) (place : JobPlace) (copy : WordCopy) (mirrors : MirrorsValue)
    → (HasFailed parts.births.items proc → ⊥) → IfSome proc (λ p. p < length parts.births.items) → IsCopyAt parts.births.items proc place op copy
    → TakesOwnMirrors parts a proc far op place mirrors mirrors → TakesMirrors parts pool a proc far op place mirrors mirrors
copy_mirrors_whole parts pool a proc far op place copy mirrors unfailed within is takes s who k others left own of_who far_is shown stands emptied =
    let alone = word_alone parts.births.items a k proc op place copy s who is shown.all.parts.births own of_who shown.all.job stands.free.at.fork in
    subst (λ (t : CoreTurn). ShowsMirrors mirrors (run s t.events)) (sym alone.same)
    (takes s who k others left own of_who far_is shown.all stands (subst (λ (t : CoreTurn). EmptiesSlots s (Some op) t) alone.same emptied))
