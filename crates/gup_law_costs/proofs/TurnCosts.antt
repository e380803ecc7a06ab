-- A turn of an actor that can go takes of the cost, and any other leaves it.
use Rattle.std.proofs.Common.{Bool, ◌≡◌, ℕ, ◌+◌, ◌*◌, ◌<◌, ◌≤◌, ◌==◌, true, false, List, [], ◌∷◌, length, All, Option, Some, None, slice_get, inl, inr, refl, ap, sym, subst, ◌∙◌, zero, suc, arith, add-one, eqb-true}
use Rattle.std.specs.Prelude.{◌⊎◌, sum_by}
use Rattle.std.proofs.lemmas.Bool.Decides.{nat_tests}
use Rattle.std.proofs.lemmas.List.Sums.{sum_by-cons}
use Rattle.gup_base.specs.declared.entry.Rights.{Rights}
use Rattle.gup_plain.specs.Put.{put}
use Rattle.gup_plain.specs.State.{Birth, growing, born, failed, Handle, held, objects_of}
use Rattle.gup_plain.specs.Denial.{is_held_by}
use Rattle.gup_plain.specs.declared.note.Waiting.{Waiting}
use Rattle.gup_script.specs.declared.op.Op.{Op}
use Rattle.gup_script.specs.declared.op.Op.TheVariants.{Map, Unmap, Discard, Pin, Unpin, Transfer, Move, Fork}
use Rattle.gup_script.specs.Script.{ScriptValue, Actor}
use Rattle.gup_script.specs.Valid.{IsScript, IsOp}
use Rattle.gup_spec_events.specs.State.{CoreState, Job, idle, forking, between, counted, copying}
use Rattle.gup_spec_events.specs.Event.{CoreEvent, run}
use Rattle.gup_law_base.specs.Sound.{Forking, forking_of}
use Rattle.gup_spec_journal.specs.Place.{Place, Doer, doer_of, birth_for, place_behind, process_of, ops_of, ops_in}
use Rattle.gup_spec_turns.specs.Cost.{fork_left, move_turns, pin_turns, walk_turns, op_cost, op_left, left_cost, actor_cost, cost, operations, is_fork, forks, IsBoundedTurn, IsWithinBound}
use Rattle.gup_plain.specs.Pages.{sum_below, mapped_pages}
use Rattle.gup_spec_turns.specs.JobPlace.{JobPlace, job_place, place_in, IsForking, StandsFork, KeepsNoJob, unbegun}
use Rattle.gup_law_turns.specs.Standing.{IsStanding, StandsHandle, given_back, back_in}
use Rattle.gup_spec_turns.specs.Run.{RunState, run_start, run_after, op_in, waiting_in, waiting_with, core_turn_by, core_turn_in, is_ready, can_go}
use Rattle.gup_spec_turns.specs.Waits.{waits_born}
use Rattle.gup_spec_turns.specs.CoreTurn.{CoreTurn}
use Rattle.gup_spec_turns.specs.Turn.{turn_at, failed_turn, op_turn, turn_of, own_turn}
use Rattle.gup_spec_turns.proofs.Unseen.{emptying_unseen}
use Rattle.gup_law_costs.proofs.PageBounds.{TakesCost}
use Rattle.gup_law_costs.proofs.ForkBounds.{IsSpent, StandsAt, place_by}
use Rattle.gup_law_costs.proofs.EmptyingBounds.{turn_spent}
use Rattle.gup_law_turns.proofs.MappedCounts.{mapped_none}
use Rattle.gup_law_turns.proofs.Puts.{put_same, put_other, put_own}
use Rattle.gup_law_costs.proofs.PinBounds.{kept_rights}
use Rattle.gup_law_turns.proofs.ScriptLemmas.{has_ops_declared, op_is_op, child_declared, has_own_process, thread_birth, op_has_process}
use Rattle.gup_law_turns.proofs.TurnSteps.{of_no_device}
use Rattle.gup_law_turns.proofs.TurnShapes.{HasLeft, IsOfProcess, child_of}
use Rattle.gup_law_turns.proofs.ShownTurns.{idle_place, waits_no_birth}
use Rattle.gup_law_turns.proofs.Sums.{sum_at, sum_same, sum_zero, sum_of_list}
use Rattle.gup_law_turns.proofs.TurnAsOwn.{as_own}

-- what an actor has left

-- that of the operations from this one on, none of which has begun
abbrev cost_from : List Op → (k : ℕ) → ℕ
cost_from [] k = 0
cost_from (op ∷ ops) zero = sum_by op_cost (op ∷ ops)
cost_from (op ∷ ops) (suc k) = cost_from ops k

cost_first : (ops : List Op) → cost_from ops 0 ≡ sum_by op_cost ops
cost_first [] = refl
cost_first (op ∷ ops) = refl

-- an idle actor stands at the first turn of its operation
left_op : (s : CoreState) (a : ℕ) → s.job a ≡ idle → (op : Op) → op_left s a op 0 ≡ op_cost op
left_op s a rests (Move proc page zone) = ap move_turns (idle_place s a rests)
left_op s a rests (Fork child) = ap (fork_left (s.right child)) (idle_place s a rests)
left_op s a rests op = omega arith

left_idle : (s : CoreState) (a : ℕ) → s.job a ≡ idle → (ops : List Op) (k : ℕ) → left_cost s a ops k 0 ≡ cost_from ops k
left_idle s a rests [] k = refl
left_idle s a rests (op ∷ ops) zero =
    let all = sum_by-cons op_cost op ops in
    let here = left_op s a rests op in
    omega (arith, all, here)
left_idle s a rests (op ∷ ops) (suc k) = left_idle s a rests ops k

-- that of the present operation, and of those after it
left_suc : (s : CoreState) (a : ℕ) (ops : List Op) (k : ℕ) (op : Op) (far : ℕ) → slice_get ops k ≡ Some op → left_cost s a ops k far ≡ op_left s a op far + cost_from ops (suc k)
left_suc s a [] k op far is = absurd (cc is)
left_suc s a (o ∷ ops) zero op far is =
    let same : o ≡ op = cc is in
    ap (λ (x : Op). op_left s a x far + sum_by op_cost ops) same ∙ ap (λ (n : ℕ). op_left s a op far + n) (sym (cost_first ops))
left_suc s a (o ∷ ops) (suc k) op far is = left_suc s a ops k op far is

left_at : (s : CoreState) (a : ℕ) (ops : List Op) (k : ℕ) (op : Op) (far : ℕ) → slice_get ops k ≡ Some op → left_cost s a ops k far ≡ op_left s a op far + cost_from ops (k + 1)
left_at s a ops k op far is = rw add-one (left_suc s a ops k op far is)

-- what a turn takes of the cost is taken of its actor's and of one process's
actor_takes : (s t : CoreState) (a : ℕ) (ops : List Op) (op : Op) (place next : Place) (before after : ℕ) → slice_get ops place.answered ≡ Some op → TakesCost s t a op place next before after → left_cost t a ops next.answered next.far + after < left_cost s a ops place.answered place.far + before
actor_takes s t a ops op place next before after is (inl answered) =
    let now = left_at s a ops place.answered op place.far is in
    let then : left_cost t a ops next.answered next.far ≡ left_cost t a ops (place.answered + 1) 0 = ap (λ (q : Place). left_cost t a ops q.answered q.far) answered.0 in
    let rest = left_idle t a answered.1 ops (place.answered + 1) in
    omega (arith, now, then, rest, answered.2)
actor_takes s t a ops op place next before after is (inr on) =
    let now = left_at s a ops place.answered op place.far is in
    let same : left_cost t a ops next.answered next.far ≡ left_cost t a ops place.answered next.far = ap (λ (k : ℕ). left_cost t a ops k next.far) on.0 in
    let then = left_at t a ops place.answered op next.far is in
    omega (arith, now, same, then, on.1)

-- an actor has as much left, if its present operation has
left_same : (s t : CoreState) (a : ℕ) (ops : List Op) (k far : ℕ) → ((op : Op) → slice_get ops k ≡ Some op → op_left t a op far ≡ op_left s a op far) → left_cost t a ops k far ≡ left_cost s a ops k far
left_same s t a [] k far same = refl
left_same s t a (op ∷ ops) zero far same = ap (λ (n : ℕ). n + sum_by op_cost ops) (same op refl)
left_same s t a (op ∷ ops) (suc k) far same = left_same s t a ops k far same

-- A measure of where a fork stands stays, if its actor's job and prepared frame do, and the rights of the child that grows;
-- before its beginning it is to be of no rights.
pub fork_stays : (measure : (ℕ → Option Rights) → JobPlace → ℕ) → ((f g : ℕ → Option Rights) → measure f unbegun ≡ measure g unbegun) → (s t : CoreState) (b p child : ℕ) (job : Job) (prepared : Option ℕ) → StandsFork s b p child job prepared → s.job b ≡ job → s.prepared b ≡ prepared → t.job b ≡ s.job b → t.prepared b ≡ s.prepared b → (s.birth child ≡ growing p → s.structure p ≡ Some b → t.right child ≡ s.right child) → measure (t.right child) (place_in t b) ≡ measure (s.right child) (place_in s b)
fork_stays measure first s t b p child job prepared stands is has same kept rights =
    ap (measure (t.right child)) (place_by t b job prepared (same ∙ is) (kept ∙ has)) ∙ go job prepared stands
    ∙ sym (ap (measure (s.right child)) (place_by s b job prepared is has))
  where
    grows : (x : JobPlace) (q c : ℕ) (done : List ℕ) → IsForking s b p child q c done → measure (t.right child) x ≡ measure (s.right child) x
    grows x q c done forks = ap (λ (f : ℕ → Option Rights). measure f x) (rights forks.birth forks.locked)

    go : (j : Job) (o : Option ℕ) → StandsFork s b p child j o → measure (t.right child) (job_place j o) ≡ measure (s.right child) (job_place j o)
    go idle o stands = first (t.right child) (s.right child)
    go (forking q c done between) o stands = grows (job_place (forking q c done between) o) q c done stands
    go (forking q c done (counted page)) o stands = grows (job_place (forking q c done (counted page)) o) q c done stands.0
    go (forking q c done (copying page word)) o stands = grows (job_place (forking q c done (copying page word)) o) q c done stands.0
    go (forking q c done step) o stands = absurd stands
    go job o stands = absurd stands

-- the operation of another actor has as much left
op_stays : (script : ScriptValue) (r : RunState) → IsStanding script r → (t : CoreState) (b : ℕ) → t.job b ≡ r.core.job b → t.prepared b ≡ r.core.prepared b → ((q parent : ℕ) → r.core.birth q ≡ growing parent → r.core.structure parent ≡ Some b → t.right q ≡ r.core.right q) → (op : Op) → op_in script r b ≡ Some op → op_left t b op (r.places b).far ≡ op_left r.core b op (r.places b).far
op_stays script r h t b job kept grown (Move proc page zone) is =
    ap (λ (j : Job). move_turns (job_place j (t.prepared b))) job ∙ ap (λ (o : Option ℕ). move_turns (job_place (r.core.job b) o)) kept
op_stays script r h t b job kept grown (Fork child) is =
    let p : ℕ = process_of script b in
    fork_stays fork_left (λ f g. refl) r.core t b p child (r.core.job b) (r.core.prepared b) (h.forks b child is) refl refl job kept (grown child p)
op_stays script r h t b job kept grown op is = refl

-- the pages of its process, or of the child that it brings, are those of a declared one; or it is of no process
pub has_child : (script : ScriptValue) → IsScript script → (a k : ℕ) (op : Op) → slice_get (ops_of script a) k ≡ Some op → (child_of (doer_of script a (Some op)).proc (Some op) < length script.processes) ⊎ (IsOfProcess op → ⊥)
has_child script valid a k op there = go op there
  where
    own : (o : Op) → IsOfProcess o → slice_get (ops_of script a) k ≡ Some o → (doer_of script a (Some o)).proc < length script.processes
    own o of is = op_has_process script valid a k o is (has_own_process script valid a k o is (of_no_device o of))

    go : (o : Op) → slice_get (ops_of script a) k ≡ Some o → (child_of (doer_of script a (Some o)).proc (Some o) < length script.processes) ⊎ (IsOfProcess o → ⊥)
    go (Fork child) is = inl (child_declared script valid a k child is)
    go op is = search (own op, inl, inr)

-- the turn of an actor that can go

-- of a pin that the actor holds, what is left
left_of : (back : ℕ → ℕ) (pinned : List ℕ) (x : Handle) (a : ℕ) → StandsHandle back pinned x → is_held_by x a ≡ true → (0 < length pinned) × (length pinned + back a ≡ length (objects_of x))
left_of back pinned (held by objects write) a stands is =
    let same : by ≡ a = eqb-true by a is in
    (stands.0, subst (λ (k : ℕ). length pinned + back k ≡ length objects) same stands.2)
left_of back pinned x a stands is = absurd (cc is)

gives_back_far : (handle far : ℕ) → given_back (Some (Unpin handle)) handle far ≡ far
gives_back_far handle far = grind (arith, nat_tests)

-- where an operation stands
stands_at : (script : ScriptValue) → IsScript script → (r : RunState) → IsStanding script r → (a : ℕ) (op : Op) → op_in script r a ≡ Some op → StandsAt r.core a (doer_of script a (Some op)).proc (r.places a) op
stands_at script valid r h a op is = go op is
  where
    built : (op : Op) → op_in script r a ≡ Some op → IsOp op
    built op is = op_is_op script valid a (r.places a).answered op is

    rests : (op : Op) → KeepsNoJob (Some op) → op_in script r a ≡ Some op → r.core.job a ≡ idle
    rests op none is = h.idle_jobs a (subst KeepsNoJob (sym is) none)

    left : (handle : ℕ) → op_in script r a ≡ Some (Unpin handle) → HasLeft r.core a handle (r.places a).far
    left handle is holds =
        let has = left_of (back_in script r handle) (r.core.pinned handle) (r.core.handle handle) a (h.handles handle) holds in
        let back : back_in script r handle a ≡ (r.places a).far = ap (λ (o : Option Op). given_back o handle (r.places a).far) is ∙ gives_back_far handle (r.places a).far in
        (has.0, ap (λ (k : ℕ). length (r.core.pinned handle) + k) (sym back) ∙ has.1)

    go : (op : Op) → op_in script r a ≡ Some op → StandsAt r.core a (doer_of script a (Some op)).proc (r.places a) op
    go (Unmap page n) is = (rests (Unmap page n) tt is, h.unmaps a page n is)
    go (Discard page n) is = (rests (Discard page n) tt is, h.discards a page n is)
    go (Pin handle page n want fast) is =
        let stands = h.pins a handle page n want fast is in
        let range = built (Pin handle page n want fast) is in
        record {
          some = omega (arith, range.0);
          within = stands.within;
          most = h.paced a handle page n want fast is;
          flag = h.sound.1.flag_born (process_of script a);
          at = stands.at;
        }
    go (Unpin handle) is = (rests (Unpin handle) tt is, (h.unpins a handle is, left handle is))
    go (Transfer handle outward slot parts) is = (rests (Transfer handle outward slot parts) tt is, h.transfers a handle outward slot parts is)
    go (Move proc page zone) is = h.moves a proc page zone is
    go (Fork child) is = h.forks a child is
    go op is = let right = built op is in (rests op tt is, search right)

goes_by : (script : ScriptValue) (r : RunState) (a : ℕ) (op : Op) → op_in script r a ≡ Some op → waiting_in script r a ≡ None → (birth_for r.core.birth (doer_of script a (Some op)) ≡ born) ⊎ (birth_for r.core.birth (doer_of script a (Some op)) ≡ failed)
goes_by script r a op is free =
    let who : Doer = doer_of script a (Some op) in
    let unwaiting : waiting_with r.core who (r.places a).far (Some op) ≡ None = subst (λ (o : Option Op). waiting_with r.core (doer_of script a o) (r.places a).far o ≡ None) is free in
    waits_no_birth (birth_for r.core.birth who) who.proc (waits_born r.core who.actor who.proc (r.places a).far op) unwaiting

-- the process that an actor forks is born
forked_born : (script : ScriptValue) (r : RunState) → IsStanding script r → (a : ℕ) (k : Forking) → forking_of (r.core.job a) ≡ Some k → r.core.birth k.proc ≡ born
forked_born script r h a k is = h.sound.1.fork_parent a k (h.sound.1.forks_are a ∙ is)

pub spent_turn : (script : ScriptValue) → IsScript script → (r : RunState) → IsStanding script r → (a : ℕ) (op : Op) → op_in script r a ≡ Some op → waiting_in script r a ≡ None → IsSpent r.core a (doer_of script a (Some op)).proc (r.places a) op (core_turn_in script r a)
spent_turn script valid r h a op is free =
    let who : Doer = doer_of script a (Some op) in
    let p : ℕ = who.proc in
    let k : ℕ = (r.places a).answered in
    let P : Option Op → Option Waiting → Type 0 = λ o w. IsSpent r.core a p (r.places a) op (core_turn_by r.core (doer_of script a o) (r.places a).far o w) in
    let own : IsOfProcess op → r.core.birth p ≡ birth_for r.core.birth who =
    λ of. sym (thread_birth who r.core.birth (has_own_process script valid a k op is (of_no_device op of))) in
    let spent : P (Some op) None = turn_spent r.core who (r.places a) op (goes_by script r a op is free) own (forked_born script r h a) (h.few_pages p) (stands_at script valid r h a op is) in
    subst (λ (w : Option Waiting). P (op_in script r a) w) (sym free) (subst (λ (o : Option Op). P o None) (sym is) spent)

-- what is of no process leaves all mappings, whether it is refused since its process failed or not
kept_failed : (s : CoreState) (a p : ℕ) (op : Op) → (IsOfProcess op → ⊥) → (run s (failed_turn a p op).events).right ≡ s.right
kept_failed s a p (Fork child) none = absurd (none tt)
kept_failed s a p op none = refl

kept_at : (s : CoreState) (who : Doer) (far : ℕ) (op : Op) (b : Birth) → (IsOfProcess op → ⊥) → (run s (turn_at b (failed_turn who.actor who.proc op) (op_turn s who.actor who.proc who.slots far op)).events).right ≡ s.right
kept_at s who far op failed none = kept_failed s who.actor who.proc op none
kept_at s who far op b none = kept_rights s who.actor who.proc who.slots far op none

-- and whatever slots it empties first, and whatever tables it changes
kept_own : (s : CoreState) (who : Doer) (far : ℕ) (op : Op) → (IsOfProcess op → ⊥) → (run s (own_turn s who far op).events).right ≡ s.right
kept_own s who far op none =
    let b : Birth = birth_for s.birth who in
    let turn : CoreTurn = turn_at b (failed_turn who.actor who.proc op) (op_turn s who.actor who.proc who.slots far op) in
    ap (λ (t : CoreState). t.right) (emptying_unseen s who.actor turn) ∙ kept_at s who far op b none

kept_of : (s : CoreState) (who : Doer) (far : ℕ) (op : Op) → (IsOfProcess op → ⊥) → (run s (turn_of s who far op).events).right ≡ s.right
kept_of s who far op none =
    let own = as_own s who far op in
    ap (λ (t : CoreState). t.right) own.after ∙ kept_own own.state who far op none ∙ ap (λ (t : CoreState). t.right) own.before

kept_turn : (script : ScriptValue) (r : RunState) (a : ℕ) (op : Op) → op_in script r a ≡ Some op → waiting_in script r a ≡ None → (IsOfProcess op → ⊥) → (run r.core (core_turn_in script r a).events).right ≡ r.core.right
kept_turn script r a op is free none =
    let who : Doer = doer_of script a (Some op) in
    let far : ℕ = (r.places a).far in
    let P : Option Op → Option Waiting → Type 0 = λ o w. (run r.core (core_turn_by r.core (doer_of script a o) far o w).events).right ≡ r.core.right in
    let kept : P (Some op) None = kept_of r.core who far op none in
    subst (λ (w : Option Waiting). P (op_in script r a) w) (sym free) (subst (λ (o : Option Op). P o None) (sym is) kept)

-- the mapped pages of all processes change as those of the one process do
pages_change : (n q : ℕ) (s t : CoreState) → (q < n) ⊎ (t.right ≡ s.right) → ((k : ℕ) → (k == q) ≡ false → t.right k ≡ s.right k) → sum_below n (λ k. mapped_pages (t.right k)) + mapped_pages (s.right q) ≡ sum_below n (λ k. mapped_pages (s.right k)) + mapped_pages (t.right q)
pages_change n q s t (inl less) others = sum_at n (λ k. mapped_pages (t.right k)) (λ k. mapped_pages (s.right k)) q less (λ k apart. ap mapped_pages (others k apart))
pages_change n q s t (inr same) others =
    let all = ap (λ (f : ℕ → ℕ → Option Rights). sum_below n (λ k. mapped_pages (f k))) same in
    let one = ap (λ (f : ℕ → ℕ → Option Rights). mapped_pages (f q)) same in
    omega (arith, all, one)

-- the place of the actor after its turn
abbrev pub next_place : ScriptValue → RunState → ℕ → Place
next_place script r a = place_behind (r.places a) (core_turn_in script r a).whats

-- in all
spent_by : (script : ScriptValue) → IsScript script → (r : RunState) → IsStanding script r → (a : ℕ) (op : Op) → op_in script r a ≡ Some op → waiting_in script r a ≡ None → cost script (run_after script r a) < cost script r
unfolding cost
spent_by script valid r h a op is free =
    let p : ℕ = (doer_of script a (Some op)).proc in
    let q : ℕ = child_of p (Some op) in
    let t : CoreState = run r.core (core_turn_in script r a).events in
    let after : RunState = run_after script r a in
    let next : Place = next_place script r a in
    let spent = spent_turn script valid r h a op is free in
    let less = actor_takes r.core t a (ops_of script a) op (r.places a) next (mapped_pages (r.core.right q)) (mapped_pages (t.right q)) is spent.takes in
    let there : a < length script.actors = has_ops_declared script a (r.places a).answered op is in
    let named : (q < length script.processes) ⊎ (t.right ≡ r.core.right) =
    elim (has_child script valid a (r.places a).answered op is) [ inl declared ↦ inl declared | inr none ↦ inr (kept_turn script r a op is free none) ] in
    let other : (b : ℕ) → (b == a) ≡ false → actor_cost script after b ≡ actor_cost script r b =
    λ b apart.
    ap (λ (place : Place). left_cost t b (ops_of script b) place.answered place.far) (put_other a b next r.places apart)
    ∙ left_same r.core t b (ops_of script b) (r.places b).answered (r.places b).far (op_stays script r h t b (spent.jobs b apart) (spent.prepared b apart) (λ q parent grows locked. spent.grown q parent b grows locked apart)) in
    let here : actor_cost script after a ≡ left_cost t a (ops_of script a) next.answered next.far = ap (λ (place : Place). left_cost t a (ops_of script a) place.answered place.far) (put_same a next r.places) in
    let actors = sum_at (length script.actors) (actor_cost script after) (actor_cost script r) a there other in
    let pages = pages_change (length script.processes) q r.core t named spent.others in
    omega (arith, less, here, actors, pages)

pub spent_turns : (script : ScriptValue) → IsScript script → (r : RunState) → IsStanding script r → (a : ℕ) → can_go script r a ≡ true → cost script (run_after script r a) < cost script r
spent_turns script valid r h a goes = by_parts (op_in script r a) (waiting_in script r a) refl refl goes
  where
    by_parts : (o : Option Op) (w : Option Waiting) → op_in script r a ≡ o → waiting_in script r a ≡ w → is_ready o w ≡ true → cost script (run_after script r a) < cost script r
    by_parts None w is free ready = absurd (cc ready)
    by_parts (Some op) (Some waiting) is free ready = absurd (cc ready)
    by_parts (Some op) None is free ready = spent_by script valid r h a op is free

-- an actor that can't go does nothing

abbrev pub IsIdleBy : ScriptValue → RunState → ℕ → Option Op → Option Waiting → Type 0
IsIdleBy script r a op waiting =
    ((core_turn_by r.core (doer_of script a op) (r.places a).far op waiting).events ≡ [])
    × (place_behind (r.places a) (core_turn_by r.core (doer_of script a op) (r.places a).far op waiting).whats ≡ r.places a)

pub idle_by : (script : ScriptValue) (r : RunState) (a : ℕ) (op : Option Op) (waiting : Option Waiting) → is_ready op waiting ≡ false → IsIdleBy script r a op waiting
idle_by script r a None waiting stays = (refl, refl)
idle_by script r a (Some op) (Some waiting) stays = (refl, refl)
idle_by script r a (Some op) None stays = absurd (cc stays)

pub kept_cost : (script : ScriptValue) (r : RunState) (a : ℕ) → can_go script r a ≡ false → cost script (run_after script r a) ≡ cost script r
unfolding cost
kept_cost script r a stays =
    let rests = idle_by script r a (op_in script r a) (waiting_in script r a) stays in
    let after : RunState = run_after script r a in
    let places : after.places ≡ r.places = ap (λ (q : Place). put a q r.places) rests.1 ∙ put_own a r.places in
    let core : after.core ≡ r.core = ap (λ (es : List CoreEvent). run r.core es) rests.0 in
    let all : (ℕ → Place) → CoreState → ℕ = λ f s. sum_below (length script.actors) (λ b. left_cost s b (ops_of script b) (f b).answered (f b).far) in
    let actors : all after.places after.core ≡ all r.places r.core = ap (λ (f : ℕ → Place). all f after.core) places ∙ ap (all r.places) core in
    let pages = ap (λ (s : CoreState). sum_below (length script.processes) (λ p. mapped_pages (s.right p))) core in
    omega (arith, actors, pages)

-- at the start

-- three turns a page are the most of a pin
pin_few : (long : Bool) (n : ℕ) → pin_turns long n ≤ 3 * n
pin_few true n = omega arith
pin_few false n = omega arith

-- and five a page those of its walk
walk_few : (fast : Bool) (n : ℕ) → walk_turns fast n ≤ 5 * n + 3
walk_few true n = omega arith
walk_few false n = omega arith

-- an operation costs at most 1,025, and a fork 527,361 more
most_of : (op : Op) → IsOp op → op_cost op ≤ 1025 + 527361 * is_fork op
most_of (Map page n rights) range = omega arith
most_of (Pin handle page n want fast) range = let few = pin_few want.long n in let walk = walk_few fast n in let most = range.1 in omega (arith, few, walk, most)
most_of op range = omega arith

most_of_ops : (ops : List Op) → All IsOp ops → sum_by op_cost ops ≤ 1025 * length ops + 527361 * sum_by is_fork ops
most_of_ops [] range = omega arith
most_of_ops (op ∷ ops) range =
    let first = most_of op (range 0 op (omega arith)) in
    let rest = most_of_ops ops (λ k d less. range (suc k) d (omega arith)) in
    let costs = sum_by-cons op_cost op ops in
    let forking = sum_by-cons is_fork op ops in
    omega (arith, first, rest, costs, forking)

most_of_all : (actors : List Actor) → All (λ (a : Actor). All IsOp a.ops) actors → sum_by (λ (a : Actor). sum_by op_cost a.ops) actors ≤ 1025 * sum_by (λ (a : Actor). length a.ops) actors + 527361 * sum_by (λ (a : Actor). sum_by is_fork a.ops) actors
most_of_all [] range = omega arith
most_of_all (actor ∷ actors) range =
    let here = most_of_ops actor.ops (range 0 actor (omega arith)) in
    let rest = most_of_all actors (λ k d less. range (suc k) d (omega arith)) in
    let costs = sum_by-cons (λ (a : Actor). sum_by op_cost a.ops) actor actors in
    let counts = sum_by-cons (λ (a : Actor). length a.ops) actor actors in
    let forking = sum_by-cons (λ (a : Actor). sum_by is_fork a.ops) actor actors in
    omega (arith, here, rest, costs, counts, forking)

pub first_cost : (script : ScriptValue) → IsScript script → cost script (run_start script) ≤ 1025 * operations script + 527361 * forks script
unfolding cost
first_cost script valid =
    let s : CoreState = (run_start script).core in
    let each : (b : ℕ) → b < length script.actors → actor_cost script (run_start script) b ≡ sum_by op_cost (ops_of script b) =
    λ b less. left_idle s b refl (ops_of script b) 0 ∙ cost_first (ops_of script b) in
    let same = sum_same (length script.actors) (actor_cost script (run_start script)) (λ b. sum_by op_cost (ops_of script b)) each in
    let actors = sum_of_list script.actors (λ (o : Option Actor). sum_by op_cost (ops_in o)) in
    let most = most_of_all script.actors valid.ops in
    let pages = sum_zero (length script.processes) (λ p. mapped_pages (s.right p)) (λ p. mapped_none (s.right p) (λ k. refl)) in
    omega (arith, same, actors, most, pages)

-- the bound of an operation speaks of a process only where that is its thread's own
own_bound : (script : ScriptValue) (a : ℕ) (op : Op) (place next : Place) (s t : CoreState) → IsWithinBound op a (doer_of script a (Some op)).proc place next s t → IsWithinBound op a (process_of script a) place next s t
own_bound script a (Move proc page zone) place next s t bound = bound
own_bound script a op place next s t bound = bound

-- the bounds on an operation's own turns
pub bounded_turn : (script : ScriptValue) → IsScript script → (r : RunState) → IsStanding script r → (a : ℕ) (op : Op) → op_in script r a ≡ Some op → waiting_in script r a ≡ None → IsBoundedTurn script r a op
bounded_turn script valid r h a op is free =
    let spent = spent_turn script valid r h a op is free in
    let here : (run_after script r a).places a ≡ next_place script r a = put_same a (next_place script r a) r.places in
    subst (λ (q : Place). IsWithinBound op a (process_of script a) (r.places a) q r.core (run_after script r a).core) (sym here) (own_bound script a op (r.places a) (next_place script r a) r.core (run_after script r a).core spent.bound)
