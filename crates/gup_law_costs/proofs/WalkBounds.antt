-- What a turn of a pin's walk leaves, and that the pin has turns left after it, unless the walk kept all pages.
use Rattle.std.proofs.Common.{◌≡◌, ℕ, ◌+◌, ◌<◌, ◌≤◌, ◌==◌, Bool, true, false, List, [], ◌∷◌, length, Option, Some, None, inl, inr, refl, ap, ◌∙◌, zero, suc, arith, nat_lt, if◌then◌else◌}
use Rattle.std.specs.Prelude.{◌⊎◌, ◌||◌}
use Rattle.gup_base.specs.declared.entry.Entry.{Entry}
use Rattle.gup_base.specs.declared.entry.Want.{Want}
use Rattle.gup_plain.specs.Put.{put}
use Rattle.gup_spec_events.specs.State.{CoreState, Taken, Job, idle, walking, WalkStep, entered, ready, reading, read, grabbed, rechecked, differed, refused, stopped, dropping, over}
use Rattle.gup_spec_tables.specs.Paths.{entry_at, leads_still}
use Rattle.gup_spec_events.specs.Event.{CoreEvent, is_odd, happens, read_sequence, recheck_above, drop_first, run, tree_in}
use Rattle.gup_spec_events.specs.Descent.{reads_down, step_down}
use Rattle.gup_law_tables.proofs.ReadDown.{leads_down}
use Rattle.gup_spec_journal.specs.Place.{Place, place_behind}
use Rattle.gup_spec_turns.specs.Cost.{pin_turns, walk_turns, pins_turns, IsAnswered, GoesOn}
use Rattle.gup_spec_turns.specs.CoreTurn.{CoreTurn}
use Rattle.gup_spec_turns.specs.PinPlace.{IsAtStep, steps_over}
use Rattle.gup_spec_turns.specs.WalkTurns.{begin_turn, leaves_if, sequence_turn, grab_turn, is_same, recheck_turn, is_none_left, reads_again, all_turn, again_turn, ready_turn, split_last, last_turn, first_turn, walk_turn}
use Rattle.gup_law_turns.proofs.Puts.{put_same, put_other}

-- what a turn of a move or a pin leaves: all mappings, and the jobs of others, with what these have prepared
pub record LeavesOthers (s : CoreState) (a : ℕ) (t : CoreState) : Type 0 where
  pub right : t.right ≡ s.right
  pub jobs : (b : ℕ) → (b == a) ≡ false → t.job b ≡ s.job b
  pub prepared : (b : ℕ) → (b == a) ≡ false → t.prepared b ≡ s.prepared b

pub stays : (s : CoreState) (a : ℕ) → LeavesOthers s a s
stays s a = record { right = refl; jobs = λ b other. refl; prepared = λ b other. refl }

-- a pin of n pages has a turn for each of them, behind its walk
pages_few : (long : Bool) (n : ℕ) → n ≤ pin_turns long n
pages_few true n = omega arith
pages_few false n = omega arith

-- so a turn of the walk is never the last one that the pin may have
walk_less : (page n got far : ℕ) (step : WalkStep) → 0 < n → IsAtStep page n got step → got ≤ n → far ≤ steps_over n got step → far + 1 < walk_turns true n + n
walk_less page n got far entered some at within most = omega (arith, some, most)
walk_less page n got far ready some at within most = omega (arith, some, most, within)
walk_less page n got far (reading g path) some at within most = absurd at
walk_less page n got far (read g path e) some at within most = omega (arith, most, at.1)
walk_less page n got far (grabbed g path e) some at within most = omega (arith, most, at.1)
walk_less page n got far (rechecked g e) some at within most = omega (arith, some, most, within)
walk_less page n got far (differed f) some at within most = omega (arith, most, at)
walk_less page n got far refused some at within most = omega (arith, some, most, within)
walk_less page n got far stopped some at within most = omega (arith, most, at)
walk_less page n got far dropping some at within most = omega (arith, some, most, within, at)
walk_less page n got far over some at within most = absurd at

pub walk_more : (long : Bool) (page n got far : ℕ) (step : WalkStep) → 0 < n → IsAtStep page n got step → got ≤ n → far ≤ steps_over n got step → far + 1 < pins_turns true long n
walk_more long page n got far step some at within most =
    let less = walk_less page n got far step some at within most in
    let few = pages_few long n in
    omega (arith, less, few)

pub begin_more : (long : Bool) (n far : ℕ) → far ≡ 0 → far + 1 < pins_turns true long n
begin_more long n far first = omega (arith, first)

-- A turn of the walk goes on, or is answered and its actor in the middle of nothing.
abbrev pub IsWalked : CoreState → (a : ℕ) → Place → CoreTurn → Type 0
IsWalked s a place turn =
    LeavesOthers s a (run s turn.events)
    × (GoesOn place (place_behind place turn.whats)
    ⊎ (IsAnswered place (place_behind place turn.whats) × ((run s turn.events).job a ≡ idle)))

module _ (s : CoreState) (a p : ℕ) (place : Place) (want : Want) where
  -- events that change the actor's job alone
  leaves_one : (t : CoreState) (job : Job) → t.right ≡ s.right → t.job ≡ put a job s.job → t.prepared ≡ s.prepared → LeavesOthers s a t
  leaves_one t job right is prepared =
      record {
        right = right;
        jobs = λ b other. ap (λ (f : ℕ → Job). f b) is ∙ put_other a b job s.job other;
        prepared = λ b other. ap (λ (f : ℕ → Option ℕ). f b) prepared;
      }

  -- the end of the walk does no more
  leaves_behind : (e : CoreEvent) (ends : Bool) (sequence : ℕ) → LeavesOthers s a (happens s e) → LeavesOthers s a (run s (e ∷ leaves_if ends a p want sequence))
  leaves_behind e false sequence left = left
  leaves_behind e true sequence left =
      record {
        right = left.right;
        jobs = λ b other. put_other a b idle (happens s e).job other ∙ left.jobs b other;
        prepared = left.prepared;
      }

  goes : (turn : CoreTurn) → LeavesOthers s a (run s turn.events) → GoesOn place (place_behind place turn.whats) → IsWalked s a place turn
  goes turn left on = (left, inl on)

  pub begins : IsWalked s a place (begin_turn a p want)
  begins = goes (begin_turn a p want) (leaves_one _ (walking p want.write want.long 0 entered) refl refl refl) (refl, refl)

  grabs : (sequence g : ℕ) (path : List ℕ) (e : Entry) (count : ℕ) → IsWalked s a place (grab_turn a p want sequence g path e count)
  grabs sequence g path e zero = goes (grab_turn a p want sequence g path e zero) (leaves_one _ (walking p want.write want.long sequence stopped) refl refl refl) (refl, refl)
  grabs sequence g path e (suc count) = goes (grab_turn a p want sequence g path e (suc count)) (leaves_one _ (walking p want.write want.long sequence (grabbed g path e)) refl refl refl) (refl, refl)

  -- so does one more event of that kind
  leaves_two : (t u : CoreState) (job : Job) → LeavesOthers s a t → u.right ≡ t.right → u.job ≡ put a job t.job → u.prepared ≡ t.prepared → LeavesOthers s a u
  leaves_two t u job left right is prepared =
      record {
        right = right ∙ left.right;
        jobs = λ b other. ap (λ (f : ℕ → Job). f b) is ∙ put_other a b job t.job other ∙ left.jobs b other;
        prepared = λ b other. ap (λ (f : ℕ → Option ℕ). f b) prepared ∙ left.prepared b other;
      }

  rechecks : (sequence g : ℕ) (path : List ℕ) (e : Entry) (leads same : Bool) → IsWalked s a place (recheck_turn a p want sequence g path e leads same)
  rechecks sequence g path e leads same = by_word leads same
    where
      above : Bool → CoreState
      above still = happens s (recheck_above a p want.write want.long sequence g path e still)

      left_above : (still : Bool) → LeavesOthers s a (above still)
      left_above still = leaves_one (above still) (walking p want.write want.long sequence (if still then grabbed g path e else differed e.frame)) refl refl refl

      by_word : (leads same : Bool) → IsWalked s a place (recheck_turn a p want sequence g path e leads same)
      by_word true true =
          goes (recheck_turn a p want sequence g path e true true)
          (leaves_two (above true) _ (walking p want.write want.long sequence (rechecked g e)) (left_above true) refl refl refl) (refl, refl)
      by_word true false =
          goes (recheck_turn a p want sequence g path e true false)
          (leaves_two (above true) _ (walking p want.write want.long sequence (differed e.frame)) (left_above true) refl refl refl) (refl, refl)
      by_word false same = goes (recheck_turn a p want sequence g path e false same) (left_above false) (refl, refl)

  keeps_all : (handle n sequence now : ℕ) (same : Bool) → IsWalked s a place (all_turn a p handle n want sequence now same)
  keeps_all handle n sequence now true =
      let t : CoreState = happens s (reads_again a p want sequence ready now) in
      let left = leaves_behind (reads_again a p want sequence ready now) true sequence (leaves_one t _ refl refl refl) in
      (record { right = left.right; jobs = left.jobs; prepared = left.prepared }, inr (refl, put_same a idle t.job))
  keeps_all handle n sequence now false = goes (all_turn a p handle n want sequence now false) (leaves_one _ _ refl refl refl) (refl, refl)

  readies : (handle page n sequence : ℕ) (more : Bool) → IsWalked s a place (ready_turn s a p handle page n want sequence more)
  readies handle page n sequence true =
      let t : CoreState = run s (reads_down s a p want.write want.long sequence page) in
      let leads = leads_down s a p sequence page want.write want.long in
      goes (ready_turn s a p handle page n want sequence true)
      (leaves_one t (walking p want.write want.long sequence (step_down s p want.write want.long page)) (ap (λ (u : CoreState). u.right) leads) (ap (λ (u : CoreState). u.job) leads) (ap (λ (u : CoreState). u.prepared) leads)) (refl, refl)
  readies handle page n sequence false = keeps_all handle n sequence (s.sequence p) (s.sequence p == sequence)

  drops_last : (sequence : ℕ) (taken : Option (List Taken × Taken)) → IsWalked s a place (last_turn a p want sequence taken)
  drops_last sequence None = goes (last_turn a p want sequence None) (stays s a) (refl, refl)
  drops_last sequence (Some (rest, last)) = goes (last_turn a p want sequence (Some (rest, last))) (leaves_one _ (walking p want.write want.long sequence stopped) refl refl refl) (refl, refl)

  drops_first : (sequence : ℕ) (taken : List Taken) → IsWalked s a place (first_turn a p want sequence taken)
  drops_first sequence [] = goes (first_turn a p want sequence []) (stays s a) (refl, refl)
  drops_first sequence (t ∷ rest) =
      goes (first_turn a p want sequence (t ∷ rest))
      (leaves_behind (drop_first a p want.write want.long sequence t rest) (is_none_left rest) sequence (leaves_one _ _ refl refl refl)) (refl, refl)

  pub walked : (handle page n sequence : ℕ) (step : WalkStep) → IsWalked s a place (walk_turn s a p handle page n want sequence step)
  walked handle page n sequence entered =
      let e : CoreEvent = read_sequence a p want.write want.long (s.sequence p) in
      goes (sequence_turn a p want (s.sequence p)) (leaves_behind e (is_odd (s.sequence p)) (s.sequence p) (leaves_one (happens s e) _ refl refl refl)) (refl, refl)
  walked handle page n sequence ready = readies handle (page + length (s.taken a)) n sequence (nat_lt (length (s.taken a)) n)
  walked handle page n sequence (reading g path) = goes (walk_turn s a p handle page n want sequence (reading g path)) (stays s a) (refl, refl)
  walked handle page n sequence (read g path e) = grabs sequence g path e (s.count e.frame)
  walked handle page n sequence (grabbed g path e) =
      rechecks sequence g path e (leads_still (tree_in s p) path g) (is_same e (entry_at (tree_in s p) path g))
  walked handle page n sequence (rechecked g e) =
      let turn : CoreTurn = walk_turn s a p handle page n want sequence (rechecked g e) in
      goes turn (leaves_one (run s turn.events) _ refl refl refl) (refl, refl)
  walked handle page n sequence (differed f) =
      let turn : CoreTurn = walk_turn s a p handle page n want sequence (differed f) in
      goes turn (leaves_one (run s turn.events) _ refl refl refl) (refl, refl)
  walked handle page n sequence refused = drops_last sequence (split_last (s.taken a))
  walked handle page n sequence stopped =
      let e : CoreEvent = reads_again a p want sequence stopped (s.sequence p) in
      goes (again_turn a p want sequence (s.sequence p) (s.taken a))
      (leaves_behind e ((s.sequence p == sequence) || is_none_left (s.taken a)) sequence (leaves_one (happens s e) _ refl refl refl)) (refl, refl)
  walked handle page n sequence dropping = drops_first sequence (s.taken a)
  walked handle page n sequence over = goes (walk_turn s a p handle page n want sequence over) (stays s a) (refl, refl)
