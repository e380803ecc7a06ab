-- A turn of a pin's walk leaves all structure locks and entries.
use Rattle.std.proofs.Common.{◌≡◌, ℕ, ◌+◌, ◌==◌, Bool, true, false, List, [], ◌∷◌, length, Option, Some, None, refl, ap, zero, suc, nat_lt}
use Rattle.std.specs.Prelude.{◌||◌}
use Rattle.gup_base.specs.declared.entry.Entry.{Entry}
use Rattle.gup_base.specs.declared.entry.Want.{Want}
use Rattle.gup_spec_events.specs.State.{CoreState, Taken, Job, walking, WalkStep, entered, ready, reading, read, grabbed, rechecked, differed, refused, stopped, dropping, over}
use Rattle.gup_spec_tables.specs.Paths.{entry_at, leads_still}
use Rattle.gup_spec_events.specs.Event.{CoreEvent, is_odd, happens, read_sequence, drop_first, run, tree_in}
use Rattle.gup_law_tables.proofs.ReadDown.{leads_down}
use Rattle.gup_spec_turns.specs.Waits.{both_locks, both_if, pin_locks}
use Rattle.gup_spec_turns.specs.WalkTurns.{begin_turn, leaves_if, grab_turn, is_same, recheck_turn, is_none_left, reads_again, all_turn, ready_turn, split_last, last_turn, first_turn, walk_turn}

-- all structure locks and all entries are as they were
abbrev pub KeepsEntries : (s t : CoreState) → Type 0
KeepsEntries s t = (t.structure ≡ s.structure) × (t.entry ≡ s.entry)

module _ (s : CoreState) (a p : ℕ) (want : Want) where
  pub begins_keep : KeepsEntries s (run s (begin_turn a p want).events)
  begins_keep = (refl, refl)

  -- the end of the walk does so too
  keeps_behind : (e : CoreEvent) (ends : Bool) (sequence : ℕ) → KeepsEntries s (happens s e) → KeepsEntries s (run s (e ∷ leaves_if ends a p want sequence))
  keeps_behind e false sequence kept = kept
  keeps_behind e true sequence kept = (kept.0, kept.1)

  grabs_keep : (sequence g : ℕ) (path : List ℕ) (e : Entry) (count : ℕ) → KeepsEntries s (run s (grab_turn a p want sequence g path e count).events)
  grabs_keep sequence g path e zero = (refl, refl)
  grabs_keep sequence g path e (suc count) = (refl, refl)

  rechecks_keep : (sequence g : ℕ) (path : List ℕ) (e : Entry) (leads same : Bool) → KeepsEntries s (run s (recheck_turn a p want sequence g path e leads same).events)
  rechecks_keep sequence g path e true true = (refl, refl)
  rechecks_keep sequence g path e true false = (refl, refl)
  rechecks_keep sequence g path e false same = (refl, refl)

  all_keep : (handle n sequence now : ℕ) (same : Bool) → KeepsEntries s (run s (all_turn a p handle n want sequence now same).events)
  all_keep handle n sequence now true = (refl, refl)
  all_keep handle n sequence now false = (refl, refl)

  readies_keep : (handle page n sequence : ℕ) (more : Bool) → KeepsEntries s (run s (ready_turn s a p handle page n want sequence more).events)
  readies_keep handle page n sequence true =
      let leads = leads_down s a p sequence page want.write want.long in
      (ap (λ (u : CoreState). u.structure) leads, ap (λ (u : CoreState). u.entry) leads)
  readies_keep handle page n sequence false = all_keep handle n sequence (s.sequence p) (s.sequence p == sequence)

  last_keep : (sequence : ℕ) (taken : Option (List Taken × Taken)) → KeepsEntries s (run s (last_turn a p want sequence taken).events)
  last_keep sequence None = (refl, refl)
  last_keep sequence (Some (rest, last)) = (refl, refl)

  first_keep : (sequence : ℕ) (taken : List Taken) → KeepsEntries s (run s (first_turn a p want sequence taken).events)
  first_keep sequence [] = (refl, refl)
  first_keep sequence (t ∷ rest) = keeps_behind (drop_first a p want.write want.long sequence t rest) (is_none_left rest) sequence (refl, refl)

  pub walk_keeps : (handle page n sequence : ℕ) (step : WalkStep) → KeepsEntries s (run s (walk_turn s a p handle page n want sequence step).events)
  walk_keeps handle page n sequence entered =
      keeps_behind (read_sequence a p want.write want.long (s.sequence p)) (is_odd (s.sequence p)) (s.sequence p) (refl, refl)
  walk_keeps handle page n sequence ready = readies_keep handle (page + length (s.taken a)) n sequence (nat_lt (length (s.taken a)) n)
  walk_keeps handle page n sequence (reading g path) = (refl, refl)
  walk_keeps handle page n sequence (read g path e) = grabs_keep sequence g path e (s.count e.frame)
  walk_keeps handle page n sequence (grabbed g path e) =
      rechecks_keep sequence g path e (leads_still (tree_in s p) path g) (is_same e (entry_at (tree_in s p) path g))
  walk_keeps handle page n sequence (rechecked g e) = (refl, refl)
  walk_keeps handle page n sequence (differed f) = (refl, refl)
  walk_keeps handle page n sequence refused = last_keep sequence (split_last (s.taken a))
  walk_keeps handle page n sequence stopped =
      keeps_behind (reads_again a p want sequence stopped (s.sequence p)) ((s.sequence p == sequence) || is_none_left (s.taken a)) sequence (refl, refl)
  walk_keeps handle page n sequence dropping = first_keep sequence (s.taken a)
  walk_keeps handle page n sequence over = (refl, refl)

-- a pin that needs the structure lock needs the table lock too
pub needs_both : (fast : Bool) (far : ℕ) (job : Job) → (pin_locks fast far job).structure ≡ true → pin_locks fast far job ≡ both_locks
needs_both fast far (walking q write long sequence step) is = absurd (cc is)
needs_both fast far job is = ap both_if is
