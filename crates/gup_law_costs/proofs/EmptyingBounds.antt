-- Slots that a turn empties first change nothing of what it takes of the cost, since that reads no slots; and so the turn of
-- whoever is of a born process, or of a failed one, takes of the cost.
use Rattle.std.proofs.Common.{◌≡◌, ℕ, ◌+◌, ◌<◌, ◌≤◌, Bool, true, false, Option, Some, inl, inr, refl, ap, sym, subst, ◌∙◌, length, arith}
use Rattle.std.specs.Prelude.{◌⊎◌}
use Rattle.gup_plain.specs.Pages.{mapped_pages}
use Rattle.gup_plain.specs.State.{Birth, born, failed}
use Rattle.gup_script.specs.declared.op.Op.{Op}
use Rattle.gup_script.specs.declared.op.Op.TheVariants.{Move, Pin, Fork}
use Rattle.gup_spec_events.specs.State.{CoreState}
use Rattle.gup_spec_events.specs.Event.{run}
use Rattle.gup_spec_journal.specs.Place.{Place, Doer, birth_by, birth_for, place_behind}
use Rattle.gup_spec_turns.specs.CoreTurn.{CoreTurn}
use Rattle.gup_spec_turns.specs.Cost.{mapped_by, op_left, IsWithinBound}
use Rattle.gup_spec_turns.specs.Emptying.{emptying}
use Rattle.gup_spec_turns.specs.Turn.{op_turn, turn_at, failed_turn, own_turn, turn_of}
use Rattle.gup_law_tables.specs.Standing.{IsButForTables}
use Rattle.gup_law_turns.proofs.EmptiedTurns.{stands_at, stands_move, stands_fork}
use Rattle.gup_law_turns.proofs.TurnAsOwn.{as_own}
use Rattle.gup_spec_turns.proofs.Unseen.{mirroring, emptying_unseen}
use Rattle.gup_law_base.specs.Sound.{Forking, forking_of}
use Rattle.gup_law_turns.proofs.TurnShapes.{IsOfProcess, child_of}
use Rattle.gup_law_costs.proofs.PageBounds.{TakesCost}
use Rattle.gup_law_costs.proofs.ForkBounds.{IsSpent, StandsAt, op_spent, failed_spent}

-- whatever slots are filled after a turn

module _ (filled : ℕ → Option ℕ) (s t : CoreState) (a : ℕ) where
  -- what an operation has left reads none
  left_unseen : (op : Op) (far : ℕ) → op_left (mirroring filled t) a op far ≡ op_left t a op far
  left_unseen (Move proc page zone) far = refl
  left_unseen op far = refl

  takes_unseen : (op : Op) (place next : Place) (before after : ℕ) → TakesCost s t a op place next before after → TakesCost s (mirroring filled t) a op place next before after
  takes_unseen op place next before after (inl answered) = inl answered
  takes_unseen op place next before after (inr on) =
      inr (on.0, subst (λ (n : ℕ). n + after < op_left s a op place.far + before) (sym (left_unseen op next.far)) on.1)

  -- nor does its bound
  bound_unseen : (op : Op) (p : ℕ) (place next : Place) → IsWithinBound op a p place next s t → IsWithinBound op a p place next s (mirroring filled t)
  bound_unseen (Move proc page zone) p place next bound = bound
  bound_unseen op p place next bound = bound

-- so a turn that empties slots first takes as much
emptying_spent : (s : CoreState) (a p : ℕ) (place : Place) (op : Op) (turn : CoreTurn) → IsSpent s a p place op turn → IsSpent s a p place op (emptying s a turn)
emptying_spent s a p place op turn spent =
    let t : CoreState = run s turn.events in
    let u : CoreState = run s (emptying s a turn).events in
    let same : u ≡ mirroring u.mirrored t = emptying_unseen s a turn in
    let next : Place = place_behind place turn.whats in
    let q : ℕ = child_of p (Some op) in
    record {
      others = λ k other. ap (λ (x : CoreState). x.right k) same ∙ spent.others k other;
      grown = λ k parent b grows locked apart. ap (λ (x : CoreState). x.right k) same ∙ spent.grown k parent b grows locked apart;
      jobs = λ b other. ap (λ (x : CoreState). x.job b) same ∙ spent.jobs b other;
      prepared = λ b other. ap (λ (x : CoreState). x.prepared b) same ∙ spent.prepared b other;
      takes = subst (λ (x : CoreState). TakesCost s x a op place next (mapped_pages (s.right q)) (mapped_pages (x.right q))) (sym same)
          (takes_unseen u.mirrored s t a op place next (mapped_pages (s.right q)) (mapped_pages (t.right q)) spent.takes);
      bound = subst (λ (x : CoreState). IsWithinBound op a p place next s x) (sym same) (bound_unseen u.mirrored s t a op p place next spent.bound);
      gained = λ k birth. subst (λ (x : CoreState). mapped_pages (x.right k) ≤ mapped_pages (s.right k) + mapped_by op) (sym same) (spent.gained k birth);
    }

-- whatever waits for a birth is of a process
failed_proc : (who : Doer) (births : ℕ → Birth) → birth_for births who ≡ failed → births who.proc ≡ failed
failed_proc who births is = go who.of_process is
  where
    go : (t : Bool) → birth_by t (births who.proc) ≡ failed → births who.proc ≡ failed
    go true lost = lost
    go false lost = absurd (cc lost)

-- the turn of whoever is of a born process, or of a failed one, but for page tables
own_spent : (s : CoreState) (who : Doer) (place : Place) (op : Op) → (birth_for s.birth who ≡ born) ⊎ (birth_for s.birth who ≡ failed) → (IsOfProcess op → s.birth who.proc ≡ birth_for s.birth who) → ((k : Forking) → forking_of (s.job who.actor) ≡ Some k → s.birth k.proc ≡ born) → mapped_pages (s.right who.proc) ≤ 1024 → StandsAt s who.actor who.proc place op → IsSpent s who.actor who.proc place op (own_turn s who place.far op)
own_spent s who place op births own parent few stands = emptying_spent s who.actor who.proc place op (by (birth_for s.birth who)) (spent births)
  where
    by : Birth → CoreTurn
    by b = turn_at b (failed_turn who.actor who.proc op) (op_turn s who.actor who.proc who.slots place.far op)

    spent : (birth_for s.birth who ≡ born) ⊎ (birth_for s.birth who ≡ failed) → IsSpent s who.actor who.proc place op (by (birth_for s.birth who))
    spent (inl birth) =
        subst (λ (b : Birth). IsSpent s who.actor who.proc place op (by b)) (sym birth) (op_spent s who.actor who.proc place who.slots op (λ of. own of ∙ birth) few stands)
    spent (inr lost) =
        subst (λ (b : Birth). IsSpent s who.actor who.proc place op (by b)) (sym lost) (failed_spent s who.actor who.proc place op (failed_proc who s.birth lost) parent stands)

-- whatever page tables there are

module _ (s t : CoreState) (same : IsButForTables s t) (a p : ℕ) where
  left_tabled : (op : Op) (far : ℕ) → op_left t a op far ≡ op_left s a op far
  left_tabled op far = ap (λ (x : CoreState). op_left x a op far) same ∙ left_beside op
    where
      left_beside : (op : Op) → op_left (record s { free_table = t.free_table; place = t.place; retired = t.retired }) a op far ≡ op_left s a op far
      left_beside (Move proc page zone) = refl
      left_beside op = refl

  bound_before : (op : Op) (place next : Place) (u : CoreState) → IsWithinBound op a p place next t u → IsWithinBound op a p place next s u
  bound_before op place next u bound = by_op op (subst (λ (x : CoreState). IsWithinBound op a p place next x u) same bound)
    where
      by_op : (op : Op) → IsWithinBound op a p place next (record s { free_table = t.free_table; place = t.place; retired = t.retired }) u → IsWithinBound op a p place next s u
      by_op (Move proc page zone) h = h
      by_op op h = h

  bound_behind : (op : Op) (place next : Place) (u : CoreState) → IsWithinBound op a p place next u s → IsWithinBound op a p place next u t
  bound_behind op place next u bound = subst (λ (x : CoreState). IsWithinBound op a p place next u x) (sym same) (by_op op bound)
    where
      by_op : (op : Op) → IsWithinBound op a p place next u s → IsWithinBound op a p place next u (record s { free_table = t.free_table; place = t.place; retired = t.retired })
      by_op (Move proc page zone) h = h
      by_op op h = h

  stands_tabled : (place : Place) (op : Op) → StandsAt s a p place op → StandsAt t a p place op
  stands_tabled place op h = subst (λ (x : CoreState). StandsAt x a p place op) (sym same) (by_op op h)
    where
      by_op : (op : Op) → StandsAt s a p place op → StandsAt (record s { free_table = t.free_table; place = t.place; retired = t.retired }) a p place op
      by_op (Pin handle page n want fast) h =
          let at = stands_at s.mirrored t.free_table t.place t.retired s a p (page + length (s.taken a)) n (length (s.taken a)) want fast (s.job a) h.at in
          record { some = h.some; within = h.within; most = h.most; flag = h.flag; at = at }
      by_op (Move proc page zone) h = stands_move s.mirrored t.free_table t.place t.retired s a p page zone (s.job a) h
      by_op (Fork child) h = stands_fork s.mirrored t.free_table t.place t.retired s a p child (s.job a) (s.prepared a) h
      by_op op h = h

-- so a turn that changes tables takes as much
turn_spent_by : (s t u v : CoreState) (a p : ℕ) (place : Place) (op : Op) (own turn : CoreTurn) → IsButForTables s t → u ≡ run t own.events → v ≡ run s turn.events → IsButForTables u v → own.whats ≡ turn.whats → IsSpent t a p place op own → IsSpent s a p place op turn
turn_spent_by s t u v a p place op own turn before u_is v_is after whats spent =
    let q : ℕ = child_of p (Some op) in
    let last : IsButForTables (run t own.events) (run s turn.events) = subst (λ (x : CoreState). IsButForTables x (run s turn.events)) u_is (subst (λ (x : CoreState). IsButForTables u x) v_is after) in
    let next : place_behind place own.whats ≡ place_behind place turn.whats = ap (place_behind place) whats in
    let left = left_tabled s t before a p op place.far in
    let pages_before : mapped_pages (t.right q) ≡ mapped_pages (s.right q) = ap (λ (x : CoreState). mapped_pages (x.right q)) before in
    let pages_behind : mapped_pages ((run s turn.events).right q) ≡ mapped_pages ((run t own.events).right q) = ap (λ (x : CoreState). mapped_pages (x.right q)) last in
    record {
      others = λ k other. ap (λ (x : CoreState). x.right k) last ∙ spent.others k other ∙ ap (λ (x : CoreState). x.right k) before;
      grown = λ k parent b grows locked apart.
          ap (λ (x : CoreState). x.right k) last
          ∙ spent.grown k parent b (ap (λ (x : CoreState). x.birth k) before ∙ grows) (ap (λ (x : CoreState). x.structure parent) before ∙ locked) apart
          ∙ ap (λ (x : CoreState). x.right k) before;
      jobs = λ b other. ap (λ (x : CoreState). x.job b) last ∙ spent.jobs b other ∙ ap (λ (x : CoreState). x.job b) before;
      prepared = λ b other. ap (λ (x : CoreState). x.prepared b) last ∙ spent.prepared b other ∙ ap (λ (x : CoreState). x.prepared b) before;
      takes = takes_by q last left pages_before pages_behind (subst (λ (n : Place). TakesCost t (run t own.events) a op place n (mapped_pages (t.right q)) (mapped_pages ((run t own.events).right q))) next spent.takes);
      bound = bound_behind (run t own.events) (run s turn.events) last a p op place (place_behind place turn.whats) s
          (bound_before s t before a p op place (place_behind place turn.whats) (run t own.events)
          (subst (λ (n : Place). IsWithinBound op a p place n t (run t own.events)) next spent.bound));
      gained = λ k birth.
          let more = spent.gained k (ap (λ (x : CoreState). x.birth k) before ∙ birth) in
          let first : mapped_pages (t.right k) ≡ mapped_pages (s.right k) = ap (λ (x : CoreState). mapped_pages (x.right k)) before in
          let later : mapped_pages ((run s turn.events).right k) ≡ mapped_pages ((run t own.events).right k) = ap (λ (x : CoreState). mapped_pages (x.right k)) last in
          omega (arith, more, first, later);
    }
  where
    takes_by : (q : ℕ) → IsButForTables (run t own.events) (run s turn.events) → op_left t a op place.far ≡ op_left s a op place.far → mapped_pages (t.right q) ≡ mapped_pages (s.right q) → mapped_pages ((run s turn.events).right q) ≡ mapped_pages ((run t own.events).right q) → TakesCost t (run t own.events) a op place (place_behind place turn.whats) (mapped_pages (t.right q)) (mapped_pages ((run t own.events).right q)) → TakesCost s (run s turn.events) a op place (place_behind place turn.whats) (mapped_pages (s.right q)) (mapped_pages ((run s turn.events).right q))
    takes_by q last left before behind (inl over) = inl (over.0, ap (λ (x : CoreState). x.job a) last ∙ over.1, let less = over.2 in omega (arith, less, left, before, behind))
    takes_by q last left before behind (inr on) =
        let now = left_tabled (run t own.events) (run s turn.events) last a p op (place_behind place turn.whats).far in
        inr (on.0, let less = on.1 in omega (arith, less, left, now, before, behind))

pub turn_spent : (s : CoreState) (who : Doer) (place : Place) (op : Op) → (birth_for s.birth who ≡ born) ⊎ (birth_for s.birth who ≡ failed) → (IsOfProcess op → s.birth who.proc ≡ birth_for s.birth who) → ((k : Forking) → forking_of (s.job who.actor) ≡ Some k → s.birth k.proc ≡ born) → mapped_pages (s.right who.proc) ≤ 1024 → StandsAt s who.actor who.proc place op → IsSpent s who.actor who.proc place op (turn_of s who place.far op)
turn_spent s who place op births own parent few stands =
    let own_as = as_own s who place.far op in
    let t : CoreState = own_as.state in
    let same : IsButForTables s t = own_as.before in
    let spent = own_spent t who place op
    (subst (λ (x : CoreState). (birth_for x.birth who ≡ born) ⊎ (birth_for x.birth who ≡ failed)) (sym same) births)
    (subst (λ (x : CoreState). IsOfProcess op → x.birth who.proc ≡ birth_for x.birth who) (sym same) own)
    (subst (λ (x : CoreState). (k : Forking) → forking_of (x.job who.actor) ≡ Some k → x.birth k.proc ≡ born) (sym same) parent)
    (subst (λ (x : CoreState). mapped_pages (x.right who.proc) ≤ 1024) (sym same) few)
    (stands_tabled s t same who.actor who.proc place op stands) in
    turn_spent_by s t (run t (own_turn t who place.far op).events) (run s (turn_of s who place.far op).events) who.actor who.proc place op (own_turn t who place.far op) (turn_of s who place.far op) same refl refl own_as.after (sym own_as.whats) spent
