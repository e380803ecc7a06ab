-- How many turns the present operation of each actor has at most, whoever takes turns in between.
use Rattle.std.proofs.Common.{◌≡◌, ℕ, ◌+◌, ◌*◌, ◌<◌, ◌≤◌, ◌==◌, Bool, true, false, if◌then◌else◌, List, [], ◌∷◌, length, Option, Some, None, slice_get, inl, inr, refl, ap, sym, subst, ◌∙◌, zero, suc, arith, add-one, eqb-true}
use Rattle.std.specs.Prelude.{sum_by}
use Rattle.std.proofs.lemmas.Bool.Decides.{nat_tests}
use Rattle.std.proofs.lemmas.List.Sums.{sum_by-cons}
use Rattle.gup_base.specs.declared.entry.Rights.{Rights}
use Rattle.gup_base.specs.declared.entry.Zone.{Zone}
use Rattle.gup_plain.specs.Event.{most_pages}
use Rattle.gup_plain.specs.Put.{put}
use Rattle.gup_plain.specs.State.{born}
use Rattle.gup_plain.specs.declared.note.Waiting.{Waiting}
use Rattle.gup_script.specs.declared.op.Op.{Op}
use Rattle.gup_script.specs.declared.op.Op.TheVariants.{Map, Unmap, Discard, Pin, Unpin, Transfer, Move, Fork, Exit}
use Rattle.gup_script.specs.Script.{ScriptValue, Actor}
use Rattle.gup_script.specs.Valid.{IsScript}
use Rattle.gup_spec_events.specs.State.{CoreState, Job, idle, moving, unread}
use Rattle.gup_spec_events.specs.Event.{CoreEvent, run}
use Rattle.gup_spec_journal.specs.Place.{Place, doer, doer_of, birth_for, present_op, process_of, ops_of, ops_in}
use Rattle.gup_spec_turns.specs.Cost.{fork_turns, move_turns, mapped_by, map_pages, most_turns_of, IsAnswered, IsWithinBound}
use Rattle.gup_plain.specs.Pages.{sum_below, mapped_pages}
use Rattle.gup_spec_turns.specs.JobPlace.{JobPlace, place_in, unbegun, moving_page}
use Rattle.gup_spec_turns.specs.Run.{turned, RunState, run_start, run_after, op_in, waiting_in, core_turn_in, is_ready}
use Rattle.gup_law_turns.specs.Standing.{IsStanding}
use Rattle.gup_law_turns.proofs.ScriptLemmas.{has_ops_declared, is_of_thread, thread_birth}
use Rattle.gup_law_costs.proofs.PageBounds.{TakesCost}
use Rattle.gup_law_costs.proofs.ForkBounds.{IsSpent}
use Rattle.gup_law_turns.proofs.PinPace.{pin_left}
use Rattle.gup_law_turns.proofs.MappedCounts.{mapped_lost}
use Rattle.gup_law_turns.proofs.Puts.{put_same, put_other, put_own, some_same}
use Rattle.gup_law_turns.proofs.ReachedStates.{IsReached, Published, StaysInside, is_standing, reached_on}
use Rattle.gup_law_turns.proofs.TurnShapes.{FitsMove, FitsOp, FitsAt, child_of}
use Rattle.gup_law_costs.proofs.TurnCosts.{idle_by, next_place, spent_turn, fork_stays}
use Rattle.gup_law_turns.proofs.StandingTurns.{at_others}
use Rattle.gup_law_turns.proofs.StandingStates.{Stands}
use Rattle.gup_law_turns.proofs.Sums.{sum_le, sum_same, sum_at, sum_of_list}
use Rattle.gup_law_turns.proofs.EventLists.{Law}
use Rattle.gup_law_turns.proofs.ShownTurns.{idle_place}

-- the pages that are yet to be mapped

-- by the operations from this one on
abbrev pub maps_from : List Op → (k : ℕ) → ℕ
maps_from [] k = 0
maps_from (op ∷ ops) zero = sum_by mapped_by (op ∷ ops)
maps_from (op ∷ ops) (suc k) = maps_from ops k

maps_first : (ops : List Op) → maps_from ops 0 ≡ sum_by mapped_by ops
maps_first [] = refl
maps_first (op ∷ ops) = refl

maps_most : (ops : List Op) (k : ℕ) → maps_from ops k ≤ sum_by mapped_by ops
maps_most [] k = omega arith
maps_most (op ∷ ops) zero = omega arith
maps_most (op ∷ ops) (suc k) =
    let rest = maps_most ops k in
    let all = sum_by-cons mapped_by op ops in
    omega (arith, rest, all)

maps_suc : (ops : List Op) (k : ℕ) (op : Op) → slice_get ops k ≡ Some op → maps_from ops k ≡ mapped_by op + maps_from ops (suc k)
maps_suc [] k op is = absurd (cc is)
maps_suc (o ∷ ops) zero op is =
    let same : o ≡ op = cc is in
    let all = sum_by-cons mapped_by o ops in
    let here : mapped_by o ≡ mapped_by op = ap mapped_by same in
    let rest = maps_first ops in
    omega (arith, all, here, rest)
maps_suc (o ∷ ops) (suc k) op is = maps_suc ops k op is

maps_at : (ops : List Op) (k : ℕ) (op : Op) → slice_get ops k ≡ Some op → maps_from ops k ≡ mapped_by op + maps_from ops (k + 1)
maps_at ops k op is = rw add-one (maps_suc ops k op is)

-- by the operations that no actor has answered
abbrev pub actor_maps : ScriptValue → (ℕ → Place) → (b : ℕ) → ℕ
actor_maps script places b = maps_from (ops_of script b) (places b).answered

unfoldable pub yet_mapped : ScriptValue → (ℕ → Place) → ℕ
yet_mapped script places = sum_below (length script.actors) (actor_maps script places)

-- are no more than those of all mappings
yet_few : (script : ScriptValue) (places : ℕ → Place) → yet_mapped script places ≤ map_pages script
unfolding yet_mapped
yet_few script places =
    let each = sum_le (length script.actors) (actor_maps script places) (λ b. sum_by mapped_by (ops_of script b)) (λ b. maps_most (ops_of script b) (places b).answered) in
    let all = sum_of_list script.actors (λ (o : Option Actor). sum_by mapped_by (ops_in o)) in
    omega (arith, each, all)

-- they stay where an actor goes on, and are fewer by those of the operation that it answers
yet_stay : (script : ScriptValue) (places : ℕ → Place) (b : ℕ) (next : Place) → next.answered ≡ (places b).answered → yet_mapped script (put b next places) ≡ yet_mapped script places
unfolding yet_mapped
yet_stay script places b next same =
    sum_same (length script.actors) (actor_maps script (put b next places)) (actor_maps script places)
    (λ j less. ap (maps_from (ops_of script j)) (go j (j == b) refl))
  where
    go : (j : ℕ) (c : Bool) → (j == b) ≡ c → (if c then next else places j).answered ≡ (places j).answered
    go j true is = same ∙ ap (λ (k : ℕ). (places k).answered) (sym (eqb-true j b is))
    go j false is = refl

yet_fall : (script : ScriptValue) (places : ℕ → Place) (b : ℕ) (next : Place) (op : Op) → present_op script b (places b) ≡ Some op → next.answered ≡ (places b).answered + 1 → yet_mapped script (put b next places) + mapped_by op ≡ yet_mapped script places
unfolding yet_mapped
yet_fall script places b next op is more =
    let there : b < length script.actors = has_ops_declared script b (places b).answered op is in
    let other : (j : ℕ) → (j == b) ≡ false → actor_maps script (put b next places) j ≡ actor_maps script places j =
    λ j apart. ap (λ (q : Place). maps_from (ops_of script j) q.answered) (put_other b j next places apart) in
    let sums = sum_at (length script.actors) (actor_maps script (put b next places)) (actor_maps script places) b there other in
    let here : actor_maps script (put b next places) b ≡ maps_from (ops_of script b) ((places b).answered + 1) =
    ap (λ (q : Place). maps_from (ops_of script b) q.answered) (put_same b next places) ∙ ap (maps_from (ops_of script b)) more in
    let was = maps_at (ops_of script b) (places b).answered op is in
    omega (arith, sums, here, was)

-- The turns that an actor's present operation has after it, with those that it has at most still to take: a fork by where it
-- stands, an exit by the pages of its process and those that are yet to be mapped.
pub record IsWithin (script : ScriptValue) (s : CoreState) (yet a : ℕ) (place : Place) : Type 0 where
  pub forks : (child : ℕ) → present_op script a place ≡ Some (Fork child) → place.far + fork_turns (s.right child) (place_in s a) ≤ 515 * most_pages + 2
  pub exits : present_op script a place ≡ Some Exit → place.far + mapped_pages (s.right (process_of script a)) + yet ≤ most_pages + map_pages script

abbrev pub AreWithin : ScriptValue → CoreState → (ℕ → Place) → Type 0
AreWithin script s places = (a : ℕ) → IsWithin script s (yet_mapped script places) a (places a)

-- an operation that goes on maps nothing, since a mapping is answered in one turn
goes_unmapped : (op : Op) (a p : ℕ) (place next : Place) (s t : CoreState) → next.answered ≡ place.answered → IsWithinBound op a p place next s t → mapped_by op ≡ 0
goes_unmapped (Map page n rights) a p place next s t same bound =
    absurd (let more : next.answered ≡ place.answered + 1 = ap (λ (q : Place). q.answered) bound in omega (arith, same, more))
goes_unmapped op a p place next s t same bound = refl

-- an answer is none that goes on
not_answered : (place next : Place) → next.answered ≡ place.answered → IsAnswered place next → ⊥
not_answered place next same answered = let more : next.answered ≡ place.answered + 1 = ap (λ (q : Place). q.answered) answered in omega (arith, same, more)

-- a process has no more pages than it may have
few_behind : (script : ScriptValue) (r : RunState) → Stands script r → (p : ℕ) → mapped_pages (r.core.right p) ≤ most_pages
few_behind script r h p = let mapped = h.few.mapped p in let most = h.few.pages p in omega (arith, mapped, most)

-- the turn of actor b, which does this operation
module _ (law : Law) (inside : StaysInside) (published : Published) (script : ScriptValue) (valid : IsScript script) (r : RunState) (h : IsReached script r) (b : ℕ) (op : Op) (is : op_in script r b ≡ Some op) (free : waiting_in script r b ≡ None) (within : AreWithin script r.core r.places) where
  abbrev t : CoreState
  t = run r.core (core_turn_in script r b).events

  abbrev next : Place
  next = next_place script r b

  abbrev yet : ℕ
  yet = yet_mapped script (put b next r.places)

  stands : IsStanding script r
  stands = is_standing published script valid r h

  abbrev own : ℕ
  own = (doer_of script b (Some op)).proc

  spent : IsSpent r.core b own (r.places b) op (core_turn_in script r b)
  spent = spent_turn script valid r stands b op is free

  few : (p : ℕ) → mapped_pages (t.right p) ≤ most_pages
  few p = few_behind script (run_after script r b) (reached_on law inside script valid r h b).stands p

  -- an exit at its first turn
  first_exit : (p far : ℕ) → far ≡ 0 → far + mapped_pages (t.right p) + yet ≤ most_pages + map_pages script
  first_exit p far first =
      let pages = few p in
      let maps = yet_few script (put b next r.places) in
      omega (arith, first, pages, maps)

  -- what a born process gains is mapped by what is answered
  gained : (p : ℕ) → r.core.birth p ≡ born → mapped_pages (t.right p) + yet ≤ mapped_pages (r.core.right p) + yet_mapped script r.places
  gained p birth = go (mapped_pages (r.core.right (child_of own (Some op)))) (mapped_pages (t.right (child_of own (Some op)))) spent.takes
    where
      more : mapped_pages (t.right p) ≤ mapped_pages (r.core.right p) + mapped_by op
      more = spent.gained p birth

      go : (before after : ℕ) → TakesCost r.core t b op (r.places b) next before after → mapped_pages (t.right p) + yet ≤ mapped_pages (r.core.right p) + yet_mapped script r.places
      go before after (inl answered) =
          let fall = yet_fall script r.places b next op is (ap (λ (q : Place). q.answered) answered.0) in
          omega (arith, more, fall)
      go before after (inr on) =
          let none = goes_unmapped op b own (r.places b) next r.core t on.0 spent.bound in
          let stay = yet_stay script r.places b next on.0 in
          omega (arith, more, none, stay)

  -- the actor's own operation, answered or not
  own_within : (before after : ℕ) → TakesCost r.core t b op (r.places b) next before after → IsWithin script t yet b next
  own_within before after (inl answered) =
      let first : next.far ≡ 0 = ap (λ (q : Place). q.far) answered.0 in
      record {
        forks = λ child now.
            let left : fork_turns (t.right child) (place_in t b) ≡ 515 * most_pages + 2 = ap (fork_turns (t.right child)) (idle_place t b answered.1) in
            omega (arith, first, left);
        exits = λ now. first_exit (process_of script b) next.far first;
      }
  own_within before after (inr on) =
      record {
        forks = λ child now. fork_on child (some_same (sym is ∙ same_op ∙ now));
        exits = λ now. exit_on (some_same (sym is ∙ same_op ∙ now));
      }
    where
      same_op : present_op script b (r.places b) ≡ present_op script b next
      same_op = ap (slice_get (ops_of script b)) (sym on.0)

      bound_as : (o : Op) → op ≡ o → IsWithinBound o b (doer_of script b (Some o)).proc (r.places b) next r.core t
      bound_as o same = subst (λ (x : Op). IsWithinBound x b (doer_of script b (Some x)).proc (r.places b) next r.core t) same spent.bound

      fork_on : (child : ℕ) → op ≡ Fork child → next.far + fork_turns (t.right child) (place_in t b) ≤ 515 * most_pages + 2
      fork_on child same =
          let was = (within b).forks child (is ∙ ap (λ (o : Op). Some o) same) in
          elim (bound_as (Fork child) same) [
            | inl answered ↦ absurd (not_answered (r.places b) next on.0 answered)
            | inr goes ↦ (let far = goes.0.1 in let less = goes.1 in omega (arith, was, far, less))
          ]

      exit_on : op ≡ Exit → next.far + mapped_pages (t.right (process_of script b)) + yet ≤ most_pages + map_pages script
      exit_on same =
          let was = (within b).exits (is ∙ ap (λ (o : Op). Some o) same) in
          let stay = yet_stay script r.places b next on.0 in
          elim (bound_as Exit same) [
            | inl answered ↦ absurd (not_answered (r.places b) next on.0 answered)
            | inr goes ↦ (let far = goes.0.1 in let less = mapped_lost (r.core.right (process_of script b)) (t.right (process_of script b)) goes.1 in omega (arith, was, far, less, stay))
          ]

  -- that of another actor
  other_within : (a : ℕ) → (a == b) ≡ false → IsWithin script t yet a (r.places a)
  other_within a apart =
      record {
        forks = λ child now.
            let p : ℕ = process_of script a in
            let stay : fork_turns (t.right child) (place_in t a) ≡ fork_turns (r.core.right child) (place_in r.core a) =
            fork_stays fork_turns (λ f g. refl) r.core t a p child (r.core.job a) (r.core.prepared a) (stands.forks a child now) refl refl (spent.jobs a apart) (spent.prepared a apart) (λ grows locked. spent.grown child p a grows locked apart) in
            let was = (within a).forks child now in
            omega (arith, stay, was);
        exits = λ now. exit now (r.places a).far refl;
      }
    where
      born_process : present_op script a (r.places a) ≡ Some Exit → 0 < (r.places a).far → r.core.birth (process_of script a) ≡ born
      born_process now begun =
          sym (thread_birth (doer script a) r.core.birth (is_of_thread script valid a (r.places a).answered Exit now (λ device. device) (λ moves. moves)))
          ∙ subst (λ (o : Option Op). birth_for r.core.birth (doer_of script a o) ≡ born) now (h.stands.begun a begun)

      exit : present_op script a (r.places a) ≡ Some Exit → (far : ℕ) → (r.places a).far ≡ far → (r.places a).far + mapped_pages (t.right (process_of script a)) + yet ≤ most_pages + map_pages script
      exit now zero first = first_exit (process_of script a) (r.places a).far first
      exit now (suc far) begun =
          let birth = born_process now (omega (arith, begun)) in
          let more = gained (process_of script a) birth in
          let was = (within a).exits now in
          omega (arith, more, was)

  turn_within : AreWithin script t (put b next r.places)
  turn_within =
      at_others (λ (a : ℕ) (place : Place). IsWithin script t yet a place) b next r.places (own_within (mapped_pages (r.core.right (child_of own (Some op)))) (mapped_pages (t.right (child_of own (Some op)))) spent.takes)
      (λ a other. other_within a (grind (arith, nat_tests)))

-- after the turn of any actor
within_on : Law → StaysInside → Published → (script : ScriptValue) → IsScript script → (r : RunState) → IsReached script r → (b : ℕ) → AreWithin script r.core r.places → AreWithin script (run_after script r b).core (run_after script r b).places
within_on law inside published script valid r h b within = by_parts (op_in script r b) (waiting_in script r b) refl refl
  where
    stays : is_ready (op_in script r b) (waiting_in script r b) ≡ false → AreWithin script (run_after script r b).core (run_after script r b).places
    stays rests =
        let idles = idle_by script r b (op_in script r b) (waiting_in script r b) rests in
        let places : (run_after script r b).places ≡ r.places = ap (λ (q : Place). put b q r.places) idles.1 ∙ put_own b r.places in
        let core : (run_after script r b).core ≡ r.core = ap (λ (es : List CoreEvent). run r.core es) idles.0 in
        subst (λ (s : CoreState). AreWithin script s (run_after script r b).places) (sym core) (subst (λ (f : ℕ → Place). AreWithin script r.core f) (sym places) within)

    by_parts : (o : Option Op) (w : Option Waiting) → op_in script r b ≡ o → waiting_in script r b ≡ w → AreWithin script (run_after script r b).core (run_after script r b).places
    by_parts None w is free = stays (ap (λ (o : Option Op). is_ready o (waiting_in script r b)) is)
    by_parts (Some op) (Some waiting) is free = stays (ap (λ (o : Option Op). is_ready o (waiting_in script r b)) is ∙ ap (is_ready (Some op)) free)
    by_parts (Some op) None is free = turn_within law inside published script valid r h b op is free within

-- at the start no operation has a turn after it
pub within_first : (script : ScriptValue) → IsReached script (run_start script) → AreWithin script (run_start script).core (run_start script).places
within_first script h a =
    record {
      forks = λ child now. omega arith;
      exits = λ now.
          let pages = few_behind script (run_start script) h.stands (process_of script a) in
          let maps = yet_few script (run_start script).places in
          omega (arith, pages, maps);
    }

-- so an operation has fewer turns after it than it may have
few_turns : Published → (script : ScriptValue) → IsScript script → (r : RunState) → IsReached script r → AreWithin script r.core r.places → (a : ℕ) (op : Op) → op_in script r a ≡ Some op → (r.places a).far < most_turns_of script op
few_turns published script valid r h within a op is = go op is (subst (λ (o : Option Op). FitsAt r.core (doer_of script a o) o (r.places a)) is (h.stands.fits a))
  where
    far : ℕ
    far = (r.places a).far

    some_moves : (x : JobPlace) → 0 < move_turns x
    some_moves (moving_page g e unread) = omega arith
    some_moves (moving_page g e count) = omega arith
    some_moves x = omega arith

    some_turns : (right : ℕ → Option Rights) (x : JobPlace) → 0 < fork_turns right x
    some_turns right unbegun = omega arith
    some_turns right x = omega arith

    few_moved : (page : ℕ) (zone : Zone) (p : ℕ) (job : Job) → FitsMove r.core a p page zone (r.places a) job → far < 3
    few_moved page zone p idle fits = let first = fits in omega (arith, first)
    few_moved page zone p (moving q g e allowed count) fits =
        let some = some_moves (moving_page g e count) in
        let sum = fits.0 in
        omega (arith, some, sum)
    few_moved page zone p job fits = absurd fits

    go : (o : Op) → op_in script r a ≡ Some o → FitsOp r.core (doer_of script a (Some o)) o (r.places a) → far < most_turns_of script o
    go (Unmap page n) is fits = fits.1
    go (Discard page n) is fits = fits.1
    go (Pin handle page n want fast) is fits =
        pin_left r.core a (process_of script a) (page + length (r.core.taken a)) n (length (r.core.taken a)) far want fast (r.core.job a) fits.at fits.within fits.most
    go (Unpin handle) is fits = (is_standing published script valid r h).unpins a handle is
    go (Transfer handle outward slot parts) is fits = fits.2
    go (Move proc page zone) is fits = few_moved page zone proc (r.core.job a) fits.2
    go (Fork child) is fits =
        let all = (within a).forks child is in
        let some = some_turns (r.core.right child) (place_in r.core a) in
        omega (arith, all, some)
    go Exit is fits = let all = (within a).exits is in omega (arith, all)
    go op is fits = let first = fits.1.0 in omega (arith, first)

-- after turns of any actors
pub within_turned : Law → StaysInside → Published → (script : ScriptValue) → IsScript script → (actors : List ℕ) (r : RunState) → IsReached script r → AreWithin script r.core r.places → (a : ℕ) (op : Op) → op_in script (turned script r actors) a ≡ Some op → ((turned script r actors).places a).far < most_turns_of script op
within_turned law inside published script valid [] r h within a op is = few_turns published script valid r h within a op is
within_turned law inside published script valid (b ∷ actors) r h within a op is =
    within_turned law inside published script valid actors (run_after script r b) (reached_on law inside script valid r h b) (within_on law inside published script valid r h b within) a op is
