-- The tables of a machine's processes are of its pool, before a turn and before tables go after it.
use Rattle.std.proofs.Common.{◌≡◌, ℕ, ◌<◌, true, inr, List, [], ◌∷◌, ◌++◌, length, Option, IfSome, sym, ap, ◌∙◌, subst}
use Rattle.gup_plain.specs.declared.note.What.{What}
use Rattle.gup_script.specs.declared.op.Op.{Op}
use Rattle.gup_tables.specs.Pool.{PoolValue}
use Rattle.gup_space.specs.Space.{SpaceParts, space_of, OwnsTables}
use Rattle.gup_space.specs.Shows.{ShowsPool}
use Rattle.gup_notify.specs.Mirrors.{MirrorsValue}
use Rattle.gup_spec_events.specs.State.{CoreState}
use Rattle.gup_spec_events.specs.Event.{CoreEvent, happens, run}
use Rattle.gup_spec_events.specs.Invariant.{AllCan}
use Rattle.gup_law_tables.specs.Standing.{has, has_table, TablesStand, IsSomewhere}
use Rattle.gup_law_tables.proofs.Nowhere.{not_made_run}
use Rattle.gup_law_tables.proofs.TableRuns.{stand_run}
use Rattle.gup_spec_journal.specs.Place.{Doer}
use Rattle.gup_spec_turns.specs.Turn.{own_turn, grows_for, shrinks_for}
use Rattle.gup_op_base.specs.declared.jobs.JobPlace.{JobPlace}
use Rattle.gup_op_base.specs.Jobs.{place_of}
use Rattle.gup_op_waits.specs.Births.{HasFailed}
use Rattle.gup_op_waits.specs.Parts.{EachSpace}
use Rattle.gup_op_waits.specs.declared.parts.Parts.{Parts}
use Rattle.gup_op_tables.specs.Alike.{ShowsEach}
use Rattle.gup_op_tables.specs.Turns.{AreParted, GrowsFor}
use Rattle.gup_op_tables.proofs.FreeTables.{own_keeps_free}
use Rattle.gup_op_turns.specs.Goes.{IsFrom, HasSlots}
use Rattle.gup_op_turns.proofs.Turning.{IsTurnWith}
use Rattle.gup_op_turns.proofs.WholeTurn.{behind}

-- so it is in a state that has them, in which tables stand
owned : (spaces : List SpaceParts) (pool : PoolValue) (s : CoreState) → ShowsEach spaces s → ShowsPool pool s → TablesStand s → ((table : ℕ) → IsSomewhere s table → table < pool.tables)
    → EachSpace (λ space. OwnsTables space pool) spaces
owned spaces pool s each free stand few p space here table is =
    let x = each p space here in
    let its : has_table s p table ≡ true =
    ap (λ place. has place (s.retired p) table) x.place
    ∙ ap (λ retired. has (space_of space).place retired table) x.retired
    ∙ is in
    (few table (inr (p, its)), sym (ap (λ free_table. free_table table) free) ∙ stand.taken p table its)

-- the first of two lists of events can happen, and then the second
can_ahead : (s : CoreState) (before es : List CoreEvent) → AllCan s (before ++ es) → AllCan s before × AllCan (run s before) es
can_ahead s [] es can = (tt, can)
can_ahead s (e ∷ before) es can = let more = can_ahead (happens s e) before es can.1 in ((can.0, more.0), more.1)

pub owned_before : (parts : Parts) (pool : PoolValue) (mirrors : MirrorsValue) (a : ℕ) (proc : Option ℕ) (far : ℕ) (op : Op) (place : JobPlace) → IsFrom parts pool mirrors a proc far op place
    → EachSpace (λ space. OwnsTables space pool) parts.spaces.items
owned_before parts pool mirrors a proc far op place from = owned parts.spaces.items pool from.state from.shown.all.parts.spaces from.shown.pool from.tables from.few

module _ (a : ℕ) (proc : Option ℕ) (far : ℕ) (op : Op) (place next : JobPlace) (mirrors : MirrorsValue) (old grown own_parts : Parts) (was now : PoolValue) (whats : List What)
    (unfailed : HasFailed old.births.items proc → ⊥) (within : IfSome proc (λ p. p < length old.births.items))
    (rest : AreParted old grown) (grows : GrowsFor old grown was now a proc far op (place_of place))
    (turn : IsTurnWith mirrors grown own_parts a proc far op place whats next) (tables : now.tables ≡ was.tables)
    (from : IsFrom old was mirrors a proc far op place) where
  pub owned_after : EachSpace (λ space. OwnsTables space now) own_parts.spaces.items
  owned_after =
      let s : CoreState = from.state in
      let who : Doer = from.who in
      let k : ℕ = from.k in
      let growth : List CoreEvent = grows_for s who k op in
      let t : CoreState = run s growth in
      let events : List CoreEvent = (own_turn t who k op).events in
      let u : CoreState = run t events in
      let here = behind a proc far op place mirrors old grown was now unfailed within rest grows s who k from.others from.left from.actor from.process from.gone from.shown from.stands in
      let slots : HasSlots grown a who.slots = subst (λ (x : Parts). HasSlots x a who.slots) (sym rest) from.slots in
      let led = turn who k from.others from.left from.actor from.process slots from.gone t here.shown here.stands in
      let first = can_ahead s growth (events ++ shrinks_for t u who k op) from.can in
      let second = can_ahead t events (shrinks_for t u who k op) first.1 in
      let stand : TablesStand u = stand_run t events (stand_run s growth from.tables first.0) second.0 in
      owned own_parts.spaces.items now u led.shown.parts.spaces (own_keeps_free t who k op ∙ here.free) stand
      (λ table is. subst (λ n. table < n) (sym tables) (from.few table (not_made_run s growth table first.0 (not_made_run t events table second.0 is))))
