-- What a turn of any operation does to mapped pages and jobs, and what it takes of the cost: a fork's, and the others'.
use Rattle.std.proofs.Common.{◌≡◌, ℕ, ◌+◌, ◌-◌, ◌*◌, ◌<◌, ◌≤◌, ◌==◌, ◌++◌, Bool, true, false, is_some, List, [], ◌∷◌, length, Option, Some, None, inl, inr, refl, ap, sym, subst, ◌∙◌, zero, suc, arith, nat_lt, eqb-true}
use Rattle.std.specs.Prelude.{Ok, Err, ◌&&◌, not, if◌then◌else◌}
use Rattle.std.proofs.lemmas.Bool.Decides.{nat_tests}
use Rattle.gup_base.specs.declared.entry.Entry.{Entry}
use Rattle.gup_base.specs.declared.entry.Allowed.TheVariants.{Any, Only}
use Rattle.gup_base.specs.declared.entry.Rights.{Rights}
use Rattle.gup_base.specs.declared.entry.Want.{Want}
use Rattle.gup_base.specs.declared.entry.Zone.{Zone}
use Rattle.gup_plain.specs.Put.{put}
use Rattle.gup_plain.specs.Event.{page_numbers, words}
use Rattle.gup_plain.specs.State.{Birth, unborn, growing, born, failed}
use Rattle.gup_plain.specs.declared.answer.Answer.{Answer}
use Rattle.gup_plain.specs.declared.answer.Answer.TheVariants as answers
use Rattle.gup_plain.specs.declared.note.What.TheVariants.{Silent}
use Rattle.gup_script.specs.declared.op.Op.{Op}
use Rattle.gup_script.specs.declared.op.Op.TheVariants.{Pin, Move, Fork}
use Rattle.gup_spec_events.specs.State.{CoreState, Job, idle, moving, Counted, unread, one as counted_one, more as counted_more, forking, ForkStep, between, counted, lowered, cleared, copying, failing, walking}
use Rattle.gup_spec_events.specs.Event.{CoreEvent, entry_of, happens, counted_as, take_frame, put_entry, pin_page, make_handle, clear_entry, place_frame, restore_entry, begin_fork, count_page, copies_page, has_tables, fail_fork, put_child, fail_unborn, run}
use Rattle.gup_spec_events.specs.Fault.{Fault}
use Rattle.gup_spec_events.specs.Failure.{are_gone, puts_entry, puts_entries, fails}
use Rattle.gup_spec_events.proofs.Gone.{no_puts}
use Rattle.gup_law_base.specs.Sound.{Forking, forking_of}
use Rattle.gup_spec_journal.specs.Place.{Place, place_behind}
use Rattle.gup_spec_turns.specs.Cost.{mapped_by, fork_turns, fork_left, move_turns, pin_turns, walk_turns, pins_turns, IsAnswered, GoesOn, IsWithinBound}
use Rattle.gup_plain.specs.Pages.{mapped_pages}
use Rattle.gup_spec_turns.specs.Pages.{pages_from}
use Rattle.gup_spec_turns.specs.JobPlace.{JobPlace, copying_place, job_place, place_in, IsForking, StandsFork, StandsMove, unbegun, from_page, at_page, wants_frame, at_word, moving_page, in_walk}
use Rattle.gup_spec_turns.specs.CoreTurn.{CoreTurn, answers_with, free_in, frame_for, zones_of, entry_in}
use Rattle.gup_spec_turns.specs.PinPlace.{StandsAtPage, IsWithin, turns_over, most_over}
use Rattle.gup_spec_turns.specs.PinTurns.{raises, pin_fault, makes_if, moves_first, clears_behind, clears_or_pins, pins_behind, ends_pin, ends_moved, pins_moved, moved_turn, pin_turn_by, begins_or_pins, pin_turn_in}
use Rattle.gup_spec_turns.specs.WalkTurns.{begin_turn, walk_turn}
use Rattle.gup_spec_turns.specs.ForkTurns.{first_behind, next_page, failed_at, page_turn, next_turn, share_turn, frame_turn, copy_turn, copying_turn, fork_turn}
use Rattle.gup_spec_turns.specs.MoveTurns.{restores, place_turn, counted_turn, move_turn}
use Rattle.gup_spec_turns.proofs.TurnParts.{clear_turn_by}
use Rattle.gup_spec_turns.specs.Turn.{op_turn, failed_turn}
use Rattle.gup_law_costs.proofs.PageBounds.{StandsShort, IsMoved, still, TakesCost, takes_cost}
use Rattle.gup_law_costs.proofs.WalkBounds.{LeavesOthers, stays, IsWalked, begins, walked, begin_more, walk_more}
use Rattle.gup_law_costs.proofs.PinBounds.{LeavesPages, FaultLeaves, leaves_both, pin_fault_leaves, raises_leave, pinned_leaves, op_moved, kept_rights}
use Rattle.gup_law_turns.proofs.PinPace.{FewOver, few_idle, few_moved, room_page, room_move, room_left}
use Rattle.gup_law_turns.proofs.MappedCounts.{mapped_none, pages_few, pages_behind}
use Rattle.gup_law_turns.proofs.Puts.{put_same, put_other, some_same}
use Rattle.gup_law_turns.proofs.PageSearches.{IsLowest, lowest_some}
use Rattle.gup_law_turns.proofs.TurnShapes.{IsOfProcess, child_of}
use Rattle.gup_law_turns.proofs.ShownTurns.{idle_place}
use Rattle.gup_spec_events.proofs.Runs.{run_behind}

-- A turn leaves the pages of all processes but its own, or the child that it brings, and those of each that grows while
-- another actor keeps its parent's structure lock. It leaves the jobs of other actors and what these have prepared, takes
-- of the cost, and is within its bound.
pub record IsSpent (s : CoreState) (a p : ℕ) (place : Place) (op : Op) (turn : CoreTurn) : Type 0 where
  pub others : (q : ℕ) → (q == child_of p (Some op)) ≡ false → (run s turn.events).right q ≡ s.right q
  pub grown : (q parent b : ℕ) → s.birth q ≡ growing parent → s.structure parent ≡ Some b → (b == a) ≡ false → (run s turn.events).right q ≡ s.right q
  pub jobs : (b : ℕ) → (b == a) ≡ false → (run s turn.events).job b ≡ s.job b
  pub prepared : (b : ℕ) → (b == a) ≡ false → (run s turn.events).prepared b ≡ s.prepared b
  pub takes : TakesCost s (run s turn.events) a op place (place_behind place turn.whats) (mapped_pages (s.right (child_of p (Some op)))) (mapped_pages ((run s turn.events).right (child_of p (Some op))))
  pub bound : IsWithinBound op a p place (place_behind place turn.whats) s (run s turn.events)
  pub gained : (q : ℕ) → s.birth q ≡ born → mapped_pages ((run s turn.events).right q) ≤ mapped_pages (s.right q) + mapped_by op

-- a process of the same pages has gained none
no_more : (f g : ℕ → Option Rights) (n : ℕ) → f ≡ g → mapped_pages f ≤ mapped_pages g + n
no_more f g n same = let pages = ap mapped_pages same in omega (arith, pages)

-- two processes of which one is born and the other isn't
apart_born : (births : ℕ → Birth) (p q : ℕ) (b : Birth) → births p ≡ b → (b ≡ born → ⊥) → births q ≡ born → (q == p) ≡ false
apart_born births p q b is other birth = go (q == p) refl
  where
    go : (c : Bool) → (q == p) ≡ c → c ≡ false
    go true same =
        let one : q ≡ p = grind (arith, nat_tests) in
        absurd (other (sym is ∙ sym (ap births one) ∙ birth))
    go false same = refl

unborn_born : unborn ≡ born → ⊥
unborn_born is = cc is

growing_born : (parent : ℕ) → growing parent ≡ born → ⊥
growing_born parent is = cc is

-- two processes of which one grows and the other doesn't
apart_grown : (births : ℕ → Birth) (p q parent : ℕ) (b : Birth) → births p ≡ b → (b ≡ growing parent → ⊥) → births q ≡ growing parent → (q == p) ≡ false
apart_grown births p q parent b is other grows = go (q == p) refl
  where
    go : (c : Bool) → (q == p) ≡ c → c ≡ false
    go true same =
        let one : q ≡ p = grind (arith, nat_tests) in
        absurd (other (sym is ∙ sym (ap births one) ∙ grows))
    go false same = refl

born_grown : (parent : ℕ) → born ≡ growing parent → ⊥
born_grown parent is = cc is

unborn_grown : (parent : ℕ) → unborn ≡ growing parent → ⊥
unborn_grown parent is = cc is

same_parent : {p q : ℕ} → growing p ≡ growing q → p ≡ q
same_parent is = cc

-- two that grow while different actors keep their parents' structure locks
apart_locked : (s : CoreState) (p q parent a b : ℕ) → s.birth p ≡ growing parent → s.structure parent ≡ Some a → (other : ℕ) → s.birth q ≡ growing other → s.structure other ≡ Some b → (b == a) ≡ false → (q == p) ≡ false
apart_locked s p q parent a b grows locked other grows_too locked_too apart = go (q == p) refl
  where
    go : (c : Bool) → (q == p) ≡ c → c ≡ false
    go true same =
        let one : q ≡ p = grind (arith, nat_tests) in
        let parents : parent ≡ other = same_parent (sym grows ∙ sym (ap s.birth one) ∙ grows_too) in
        let holders : a ≡ b = some_same (sym locked ∙ ap s.structure parents ∙ locked_too) in
        absurd (let no : ⊥ = grind (arith, nat_tests) in no)
    go false same = refl

-- both of two tests
and_first : (x y : Bool) → (x && y) ≡ true → x ≡ true
and_first true y both = refl
and_first false y both = absurd (cc both)

and_second : (x y : Bool) → (x && y) ≡ true → y ≡ true
and_second true y both = both
and_second false y both = absurd (cc both)

-- a fork stands in the middle
abbrev IsMiddle : JobPlace → Type 0
IsMiddle unbegun = ⊥
IsMiddle (moving_page page e count) = ⊥
IsMiddle (in_walk sequence step) = ⊥
IsMiddle place = Unit {0}

-- there its turns are all that it costs
left_turns : (right : ℕ → Option Rights) (x : JobPlace) → IsMiddle x → fork_left right x ≡ fork_turns right x
left_turns right unbegun middle = absurd middle
left_turns right (moving_page page e count) middle = absurd middle
left_turns right (in_walk sequence step) middle = absurd middle
left_turns right place middle = refl

-- a copy that has begun is in the middle, and costs at most as much as one that wants its frame
copying_middle : (page word : ℕ) (prepared : Option ℕ) → IsMiddle (copying_place page word prepared)
copying_middle page word None = tt
copying_middle page word (Some to) = tt

copying_few : (right : ℕ → Option Rights) (page word : ℕ) (prepared : Option ℕ) → fork_turns right (copying_place page word prepared) ≤ 515 * pages_from right (page + 1) + 515
copying_few right page word None = omega arith
copying_few right page word (Some to) = omega arith

-- where a fork stands, by its actor's job and the frame that this has prepared
pub place_by : (t : CoreState) (a : ℕ) (job : Job) (prepared : Option ℕ) → t.job a ≡ job → t.prepared a ≡ prepared → place_in t a ≡ job_place job prepared
place_by t a job prepared is has = ap (λ (j : Job). job_place j (t.prepared a)) is ∙ ap (job_place job) has

module _ (a p c : ℕ) (done : List ℕ) where
  -- The references of a failed child that are given back leave all mappings, other actors' jobs, and what actors have prepared.
  record GivesBack (s t : CoreState) : Type 0 where
    right : t.right ≡ s.right
    others : (b : ℕ) → (b == a) ≡ false → t.job b ≡ s.job b
    prepared : t.prepared ≡ s.prepared

  gives_both : (s t u : CoreState) → GivesBack s t → GivesBack t u → GivesBack s u
  gives_both s t u now later =
      record {
        right = later.right ∙ now.right;
        others = λ b other. later.others b other ∙ now.others b other;
        prepared = later.prepared ∙ now.prepared;
      }

  puts_one : (s : CoreState) (page : ℕ) (entry : Option Entry) (ends : Bool) → GivesBack s (run s (puts_entry a p c done page entry ends))
  puts_one s page None ends = record { right = refl; others = λ b other. refl; prepared = refl }
  puts_one s page (Some e) true = record { right = refl; others = λ b other. put_other a b idle s.job other; prepared = refl }
  puts_one s page (Some e) false = record { right = refl; others = λ b other. refl; prepared = refl }

  puts_all : (s : CoreState) (entry : ℕ → Option Entry) (first n : ℕ) → GivesBack s (run s (puts_entries a p c done entry first n))
  puts_all s entry first zero = record { right = refl; others = λ b other. refl; prepared = refl }
  puts_all s entry first (suc n) =
      let one : List CoreEvent = puts_entry a p c done first (entry first) (are_gone entry (first + 1) n) in
      let more : List CoreEvent = puts_entries a p c done entry (first + 1) n in
      let t : CoreState = run s one in
      subst (GivesBack s) (sym (run_behind s one more)) (gives_both s t (run t more) (puts_one s first (entry first) (are_gone entry (first + 1) n)) (puts_all t entry (first + 1) n))

  -- with the last of them the actor is in the middle of nothing
  puts_end : (s : CoreState) (entry : ℕ → Option Entry) (first n : ℕ) → are_gone entry first n ≡ false → (run s (puts_entries a p c done entry first n)).job a ≡ idle
  puts_end s entry first zero some = absurd (cc)
  puts_end s entry first (suc n) some =
      at_entry (entry first) some (λ t left. puts_end t entry (first + 1) n left)
    where
      rest : List CoreEvent
      rest = puts_entries a p c done entry (first + 1) n

      Later : Type 0
      Later = (t : CoreState) → are_gone entry (first + 1) n ≡ false → (run t rest).job a ≡ idle

      by_last : (e : Entry) (ends : Bool) → are_gone entry (first + 1) n ≡ ends → Later → (run (happens s (put_child a p c done first e ends)) rest).job a ≡ idle
      by_last e true gone later =
          ap (λ (es : List CoreEvent). (run (happens s (put_child a p c done first e true)) es).job a) (no_puts a p c done entry (first + 1) n gone)
          ∙ put_same a idle s.job
      by_last e false gone later = later (happens s (put_child a p c done first e false)) gone

      at_entry : (here : Option Entry) → not (is_some here) && are_gone entry (first + 1) n ≡ false → Later → (run s (puts_entry a p c done first here (are_gone entry (first + 1) n) ++ rest)).job a ≡ idle
      at_entry None left later = later s left
      at_entry (Some e) left later = by_last e (are_gone entry (first + 1) n) refl later

  -- the failure of a fork: its child has no mappings, and its actor is in the middle of nothing
  record IsFailed (s t : CoreState) : Type 0 where
    right : t.right ≡ put c (λ _. None) s.right
    own : t.job a ≡ idle
    others : (b : ℕ) → (b == a) ≡ false → t.job b ≡ s.job b
    prepared : t.prepared ≡ s.prepared

  fails_by : (s : CoreState) (step : ForkStep) (entry : ℕ → Option Entry) (n : ℕ) (ends : Bool) → are_gone entry 0 n ≡ ends → IsFailed s (run (happens s (fail_fork a p c done step ends)) (puts_entries a p c done entry 0 n))
  fails_by s step entry n true gone =
      subst (λ (es : List CoreEvent). IsFailed s (run (happens s (fail_fork a p c done step true)) es)) (sym (no_puts a p c done entry 0 n gone))
      (record { right = refl; own = put_same a idle s.job; others = λ b other. put_other a b idle s.job other; prepared = refl })
  fails_by s step entry n false gone =
      let t : CoreState = happens s (fail_fork a p c done step false) in
      let back = puts_all t entry 0 n in
      record {
        right = back.right;
        own = puts_end t entry 0 n gone;
        others = λ b other. back.others b other ∙ put_other a b (forking p c done failing) s.job other;
        prepared = back.prepared;
      }

  fails_so : (s : CoreState) (step : ForkStep) (entry : ℕ → Option Entry) → IsFailed s (run s (fails a p c done step entry))
  fails_so s step entry = fails_by s step entry page_numbers (are_gone entry 0 page_numbers) refl

module _ (s : CoreState) (a p : ℕ) (place : Place) where
  -- an operation that isn't a fork
  moved_spent : (op : Op) (turn : CoreTurn) → child_of p (Some op) ≡ p → ((q parent : ℕ) → s.birth q ≡ growing parent → (run s turn.events).right q ≡ s.right q) → StandsShort s a op place → IsMoved s a p place op turn → IsSpent s a p place op turn
  moved_spent op turn own grown short moved =
      let t : CoreState = run s turn.events in
      let takes = takes_cost op a p place (place_behind place turn.whats) s t short moved.jobs.idle moved.gained moved.bound in
      record {
        others = λ q other. moved.others q (subst (λ (k : ℕ). (q == k) ≡ false) own other);
        grown = λ q parent b grows locked apart. grown q parent grows;
        jobs = moved.jobs.others;
        prepared = moved.jobs.prepared;
        takes = subst (λ (k : ℕ). TakesCost s t a op place (place_behind place turn.whats) (mapped_pages (s.right k)) (mapped_pages (t.right k))) (sym own) takes;
        bound = moved.bound;
        gained = λ q birth. gains q (q == p) refl;
      }
    where
      gains : (q : ℕ) (c : Bool) → (q == p) ≡ c → mapped_pages ((run s turn.events).right q) ≤ mapped_pages (s.right q) + mapped_by op
      gains q true same =
          subst (λ (k : ℕ). mapped_pages ((run s turn.events).right k) ≤ mapped_pages (s.right k) + mapped_by op) (sym (eqb-true q p same)) moved.gained
      gains q false other = no_more ((run s turn.events).right q) (s.right q) (mapped_by op) (moved.others q other)

  -- of a born process
  page_op_spent : (slots : ℕ) (op : Op) → child_of p (Some op) ≡ p → s.birth p ≡ born → (s.job a ≡ idle) × StandsShort s a op place → IsSpent s a p place op (op_turn s a p slots place.far op)
  page_op_spent slots op own birth stands =
      let moved = op_moved s a p place stands.0 slots op stands.1 in
      moved_spent op (op_turn s a p slots place.far op) own (λ q parent grows. moved.others q (apart_grown s.birth p q parent born birth (born_grown parent) grows)) stands.1 moved

  -- of whoever holds a pin
  handle_op_spent : (slots : ℕ) (op : Op) → child_of p (Some op) ≡ p → (IsOfProcess op → ⊥) → (s.job a ≡ idle) × StandsShort s a op place → IsSpent s a p place op (op_turn s a p slots place.far op)
  handle_op_spent slots op own none stands =
      let same = kept_rights s a p slots place.far op none in
      moved_spent op (op_turn s a p slots place.far op) own (λ q parent grows. ap (λ (f : ℕ → ℕ → Option Rights). f q) same) stands.1 (op_moved s a p place stands.0 slots op stands.1)

  -- of a failed process: it is refused
  refused_spent : (op : Op) → child_of p (Some op) ≡ p → (s.job a ≡ idle) × StandsShort s a op place → IsSpent s a p place op (answers_with answers.Unborn)
  refused_spent op own stands =
      moved_spent op (answers_with answers.Unborn) own (λ q parent grows. refl) stands.1 (still s a p place stands.0 op (answers_with answers.Unborn) refl refl refl refl)

  -- forks

  module _ (child : ℕ) where
    -- a fork goes on from one place in the middle to another, and leaves all mappings
    fork_goes : (turn : CoreTurn) (x y : JobPlace) → IsMiddle x → IsMiddle y → place_in s a ≡ x → place_in (run s turn.events) a ≡ y → (run s turn.events).right ≡ s.right → ((b : ℕ) → (b == a) ≡ false → (run s turn.events).job b ≡ s.job b) → ((b : ℕ) → (b == a) ≡ false → (run s turn.events).prepared b ≡ s.prepared b) → GoesOn place (place_behind place turn.whats) → fork_turns (s.right child) y < fork_turns (s.right child) x → IsSpent s a p place (Fork child) turn
    fork_goes turn x y from to was is same jobs prepared goes less =
        let t : CoreState = run s turn.events in
        let before : fork_turns (s.right child) (place_in s a) ≡ fork_turns (s.right child) x = ap (fork_turns (s.right child)) was in
        let after : fork_turns (t.right child) (place_in t a) ≡ fork_turns (s.right child) y =
        ap (fork_turns (t.right child)) is ∙ ap (λ (f : ℕ → ℕ → Option Rights). fork_turns (f child) y) same in
        let left_before : fork_left (s.right child) (place_in s a) ≡ fork_turns (s.right child) x = ap (fork_left (s.right child)) was ∙ left_turns (s.right child) x from in
        let left_after : fork_left (t.right child) (place_in t a) ≡ fork_turns (s.right child) y =
        ap (fork_left (t.right child)) is ∙ ap (λ (f : ℕ → ℕ → Option Rights). fork_left (f child) y) same ∙ left_turns (s.right child) y to in
        let pages : mapped_pages (t.right child) ≡ mapped_pages (s.right child) = ap (λ (f : ℕ → ℕ → Option Rights). mapped_pages (f child)) same in
        record {
          others = λ q other. ap (λ (f : ℕ → ℕ → Option Rights). f q) same;
          grown = λ q parent b grows locked apart. ap (λ (f : ℕ → ℕ → Option Rights). f q) same;
          jobs = jobs;
          prepared = prepared;
          takes = inr (goes.0, omega (arith, left_before, left_after, pages, less));
          bound = inr (goes, omega (arith, before, after, less));
          gained = λ q birth. no_more (t.right q) (s.right q) 0 (ap (λ (f : ℕ → ℕ → Option Rights). f q) same);
        }

    -- its beginning
    begin_spent : s.job a ≡ idle → s.birth child ≡ unborn → mapped_pages (s.right p) ≤ 1024 → IsSpent s a p place (Fork child) (fork_turn s a p child idle)
    begin_spent rests birth few =
        let t : CoreState = happens s (begin_fork a p child) in
        let right : t.right child ≡ s.right p = put_same child (s.right p) s.right in
        let was : place_in s a ≡ unbegun = idle_place s a rests in
        let is : place_in t a ≡ from_page 0 = place_by t a (forking p child [] between) (s.prepared a) (put_same a (forking p child [] between) s.job) refl in
        let most = pages_few 0 (s.right p) in
        let before : fork_turns (s.right child) (place_in s a) ≡ 527362 = ap (fork_turns (s.right child)) was in
        let after : fork_turns (t.right child) (place_in t a) ≡ 515 * pages_from (s.right p) 0 + 1 =
        ap (fork_turns (t.right child)) is ∙ ap (λ (f : ℕ → Option Rights). 515 * pages_from f 0 + 1) right in
        let left_before : fork_left (s.right child) (place_in s a) ≡ 528386 = ap (fork_left (s.right child)) was in
        let left_after : fork_left (t.right child) (place_in t a) ≡ 515 * pages_from (s.right p) 0 + 1 =
        ap (fork_left (t.right child)) is ∙ ap (λ (f : ℕ → Option Rights). 515 * pages_from f 0 + 1) right in
        let pages : mapped_pages (t.right child) ≡ mapped_pages (s.right p) = ap mapped_pages right in
        record {
          others = λ q other. put_other child q (s.right p) s.right other;
          grown = λ q parent b grows locked apart. put_other child q (s.right p) s.right (apart_grown s.birth child q parent unborn birth (unborn_grown parent) grows);
          jobs = λ b other. put_other a b (forking p child [] between) s.job other;
          prepared = λ b other. refl;
          takes = inr (refl, omega (arith, left_before, left_after, pages, most, few));
          bound = inr ((refl, refl), omega (arith, before, after, most, few));
          gained = λ q born_too. no_more (t.right q) (s.right q) 0 (put_other child q (s.right p) s.right (apart_born s.birth child q unborn birth unborn_born born_too));
        }

    -- its end
    end_spent : (q c : ℕ) (done : List ℕ) → s.job a ≡ forking q c done between → IsSpent s a p place (Fork child) (next_turn s a p child done None)
    end_spent q c done is =
        let t : CoreState = run s (next_turn s a p child done None).events in
        let left : fork_left (s.right child) (place_in s a) ≡ 515 * pages_from (s.right child) (first_behind done) + 1 = ap (λ (j : Job). fork_left (s.right child) (job_place j (s.prepared a))) is in
        record {
          others = λ q other. refl;
          grown = λ q parent b grows locked apart. refl;
          jobs = λ b other. put_other a b idle s.job other;
          prepared = λ b other. refl;
          takes = inl (refl, put_same a idle s.job, omega (arith, left));
          bound = inl refl;
          gained = λ q birth. no_more (t.right q) (s.right q) 0 refl;
        }

    -- the page that is next
    page_spent : (q c : ℕ) (done : List ℕ) (page : ℕ) (entry : Option Entry) → s.job a ≡ forking q c done between → next_page (s.right child) done ≡ Some page → IsSpent s a p place (Fork child) (page_turn s a p child done page entry)
    page_spent q c done page entry is next =
        let found : IsLowest (first_behind done) (page_numbers - first_behind done) (λ (g : ℕ). is_some (s.right child g)) page =
        lowest_some (first_behind done) (page_numbers - first_behind done) page (λ (g : ℕ). is_some (s.right child g)) next in
        let least : first_behind done ≤ page = found.from in
        let inside : page < first_behind done + (page_numbers - first_behind done) = found.below in
        let fewer = pages_behind (first_behind done) page (s.right child) least (omega arith) found.passes in
        go entry fewer
      where
        was : place_in s a ≡ from_page (first_behind done)
        was = ap (λ (j : Job). job_place j (s.prepared a)) is

        -- whether it is to be copied or to be shared
        counts : (e : Entry) (copies : Bool) → pages_from (s.right child) (page + 1) < pages_from (s.right child) (first_behind done) → IsSpent s a p place (Fork child) (record { events = count_page a p child done page e copies ∷ []; whats = Silent ∷ [] })
        counts e true fewer =
            let turn : CoreTurn = record { events = count_page a p child done page e true ∷ []; whats = Silent ∷ [] } in
            let job : Job = forking p child done (copying page 0) in
            let few = copying_few (s.right child) page 0 (s.prepared a) in
            fork_goes turn (from_page (first_behind done)) (copying_place page 0 (s.prepared a)) tt (copying_middle page 0 (s.prepared a)) was
            (place_by (run s turn.events) a job (s.prepared a) (put_same a job s.job) refl) refl (λ b other. put_other a b job s.job other) (λ b other. refl) (refl, refl) (omega (arith, few, fewer))
        counts e false fewer =
            let turn : CoreTurn = record { events = count_page a p child done page e false ∷ []; whats = Silent ∷ [] } in
            let job : Job = forking p child done (counted page) in
            fork_goes turn (from_page (first_behind done)) (at_page page) tt tt was
            (place_by (run s turn.events) a job (s.prepared a) (put_same a job s.job) refl) refl (λ b other. put_other a b job s.job other) (λ b other. refl) (refl, refl) (omega (arith, fewer))

        go : (entry : Option Entry) → pages_from (s.right child) (page + 1) < pages_from (s.right child) (first_behind done) → IsSpent s a p place (Fork child) (page_turn s a p child done page entry)
        go None fewer =
            let turn : CoreTurn = page_turn s a p child done page None in
            let job : Job = forking p child (page ∷ done) between in
            fork_goes turn (from_page (first_behind done)) (from_page (page + 1)) tt tt was
            (place_by (run s turn.events) a job (s.prepared a) (put_same a job s.job) refl) refl (λ b other. put_other a b job s.job other) (λ b other. refl) (refl, refl) (omega (arith, fewer))
        go (Some e) fewer = counts e (copies_page s p e.frame) fewer

    -- at any step it can fail
    fail_spent : (q c : ℕ) (done : List ℕ) (step : ForkStep) → IsForking s a p child q c done → IsSpent s a p place (Fork child) (failed_at s a p child done step)
    fail_spent q c done step forks =
        let turn : CoreTurn = failed_at s a p child done step in
        let t : CoreState = run s turn.events in
        let lost = fails_so a p child done s step (s.entry child) in
        let none : ℕ → Option Rights = λ _. None in
        let row : t.right child ≡ none = ap (λ (f : ℕ → ℕ → Option Rights). f child) lost.right ∙ put_same child none s.right in
        let pages : mapped_pages (t.right child) ≡ 0 = ap mapped_pages row ∙ mapped_none none (λ k. refl) in
        let left = some_left (s.right child) (place_in s a) in
        record {
          others = λ q other. ap (λ (f : ℕ → ℕ → Option Rights). f q) lost.right ∙ put_other child q none s.right other;
          grown = λ q parent b grows locked apart.
              ap (λ (f : ℕ → ℕ → Option Rights). f q) lost.right ∙ put_other child q none s.right (apart_locked s child q p a b forks.birth forks.locked parent grows locked apart);
          jobs = lost.others;
          prepared = λ b other. ap (λ (f : ℕ → Option ℕ). f b) lost.prepared;
          takes = inl (refl, lost.own, omega (arith, pages, left));
          bound = inl refl;
          gained = λ q birth.
              no_more (t.right q) (s.right q) 0 (ap (λ (f : ℕ → ℕ → Option Rights). f q) lost.right ∙ put_other child q none s.right (apart_born s.birth child q (growing p) forks.birth (growing_born p) birth));
        }
      where
        some_left : (right : ℕ → Option Rights) (x : JobPlace) → 0 < fork_left right x
        some_left right unbegun = omega arith
        some_left right place = omega arith

    -- the page that was counted is shared; where the child lacks a table for it the fork fails
    share_spent : (q c : ℕ) (done : List ℕ) (page : ℕ) (entry : Option Entry) (may : Bool) → s.job a ≡ forking q c done (counted page) → IsForking s a p child q c done → IsSpent s a p place (Fork child) (share_turn s a p child done page entry may)
    share_spent q c done page entry false is forks = fail_spent q c done (counted page) forks
    share_spent q c done page entry true is forks =
        let turn : CoreTurn = share_turn s a p child done page entry true in
        let one : Job = forking p child done (lowered page) in
        let two : Job = forking p child done (cleared page) in
        let job : Job = forking p child (page ∷ done) between in
        let last : ℕ → Job = put a two (put a one s.job) in
        fork_goes turn (at_page page) (from_page (page + 1)) tt tt (ap (λ (j : Job). job_place j (s.prepared a)) is)
        (place_by (run s turn.events) a job (s.prepared a) (put_same a job last) refl) refl
        (λ b other. put_other a b job last other ∙ put_other a b two (put a one s.job) other ∙ put_other a b one s.job other) (λ b other. refl) (refl, refl) (omega arith)

    -- the counted page is copied: the frame for it, its words, and its place in the child
    copying_spent : (q c : ℕ) (done : List ℕ) (page word : ℕ) (prepared : Option ℕ) → s.job a ≡ forking q c done (copying page word) → s.prepared a ≡ prepared → IsForking s a p child q c done → IsSpent s a p place (Fork child) (copying_turn s a p child done page word prepared)
    copying_spent q c done page word None is has forks = takes (frame_for s child page Any)
      where
        takes : (free : Option ℕ) → IsSpent s a p place (Fork child) (frame_turn s a p child done page word free)
        takes None = fail_spent q c done (copying page word) forks
        takes (Some f) =
            let turn : CoreTurn = frame_turn s a p child done page word (Some f) in
            fork_goes turn (wants_frame page) (at_word page word f) tt tt (place_by s a (forking q c done (copying page word)) None is has)
            (place_by (run s turn.events) a (forking q c done (copying page word)) (Some f) is (put_same a (Some f) s.prepared)) refl (λ b other. refl) (λ b other. put_other a b (Some f) s.prepared other) (refl, refl) (omega arith)
    copying_spent q c done page word (Some to) is has forks = copies (nat_lt word words) refl
      where
        was : place_in s a ≡ at_word page word to
        was = place_by s a (forking q c done (copying page word)) (Some to) is has

        copies : (more : Bool) → nat_lt word words ≡ more → IsSpent s a p place (Fork child) (copy_turn s a p child done page word to more)
        copies true test =
            let turn : CoreTurn = copy_turn s a p child done page word to true in
            let job : Job = forking p child done (copying page (word + 1)) in
            let inside : word < words = grind (arith, nat_tests) in
            fork_goes turn (at_word page word to) (at_word page (word + 1) to) tt tt was
            (place_by (run s turn.events) a job (Some to) (put_same a job s.job) has) refl (λ b other. put_other a b job s.job other) (λ b other. refl) (refl, refl) (omega (arith, inside))
        copies false test =
            let turn : CoreTurn = copy_turn s a p child done page word to false in
            let job : Job = forking p child (page ∷ done) between in
            fork_goes turn (at_word page word to) (from_page (page + 1)) tt tt was
            (place_by (run s turn.events) a job None (put_same a job s.job) (put_same a None s.prepared)) refl (λ b other. put_other a b job s.job other) (λ b other. put_other a b None s.prepared other) (refl, refl) (omega arith)

    fork_spent : (job : Job) → s.job a ≡ job → StandsFork s a p child job (s.prepared a) → mapped_pages (s.right p) ≤ 1024 → IsSpent s a p place (Fork child) (fork_turn s a p child job)
    fork_spent idle is stands few = begin_spent is stands few
    fork_spent (forking q c done between) is stands few = next (next_page (s.right child) done) refl
      where
        next : (found : Option ℕ) → next_page (s.right child) done ≡ found → IsSpent s a p place (Fork child) (next_turn s a p child done found)
        next None same = end_spent q c done is
        next (Some page) same = page_spent q c done page (s.entry p page) is same
    fork_spent (forking q c done (counted page)) is stands few = share_spent q c done page (s.entry p page) (has_tables s child page) is stands.0
    fork_spent (forking q c done (copying page word)) is stands few = copying_spent q c done page word (s.prepared a) is refl stands.0
    fork_spent (forking q c done step) is stands few = absurd stands
    fork_spent job is stands few = absurd stands

    -- one of a failed process makes its child failed too
    unborn_spent : s.job a ≡ idle → s.birth child ≡ unborn → IsSpent s a p place (Fork child) (failed_turn a p (Fork child))
    unborn_spent rests birth =
        let t : CoreState = happens s (fail_unborn a p child) in
        let none : ℕ → Option Rights = λ _. None in
        let pages : mapped_pages (t.right child) ≡ 0 = ap mapped_pages (put_same child none s.right) ∙ mapped_none none (λ k. refl) in
        let left : fork_left (s.right child) (place_in s a) ≡ 528386 = ap (fork_left (s.right child)) (idle_place s a rests) in
        record {
          others = λ q other. put_other child q none s.right other;
          grown = λ q parent b grows locked apart. put_other child q none s.right (apart_grown s.birth child q parent unborn birth (unborn_grown parent) grows);
          jobs = λ b other. refl;
          prepared = λ b other. refl;
          takes = inl (refl, rests, omega (arith, pages, left));
          bound = inl refl;
          gained = λ q born_too. no_more (t.right q) (s.right q) 0 (put_other child q none s.right (apart_born s.birth child q unborn birth unborn_born born_too));
        }

    -- no fork of a failed process is in the middle
    unborn_by : (job : Job) → s.job a ≡ job → StandsFork s a p child job (s.prepared a) → ((k : Forking) → forking_of job ≡ Some k → s.birth k.proc ≡ born) → s.birth p ≡ failed → IsSpent s a p place (Fork child) (failed_turn a p (Fork child))
    unborn_by idle is stands parent lost = unborn_spent is stands
    unborn_by (forking q c done step) is stands parent lost = absurd (born_failed step stands)
      where
        not_both : q ≡ p → ⊥
        not_both own =
            let birth : s.birth q ≡ born = parent (record { proc = q; child = c; done = done; step = step }) refl in
            cc (sym birth ∙ ap s.birth own ∙ lost)

        born_failed : (x : ForkStep) → StandsFork s a p child (forking q c done x) (s.prepared a) → ⊥
        born_failed between there = not_both there.parent
        born_failed (counted page) there = not_both there.0.parent
        born_failed (copying page word) there = not_both there.0.parent
        born_failed x there = there
    unborn_by job is stands parent lost = absurd stands

  -- what a turn of a move or a pin leaves: all mappings, and the jobs of others, with what these have prepared
  abbrev LeavesMoved : CoreState → Type 0
  LeavesMoved t = LeavesOthers s a t

  -- moves

  module _ (proc page : ℕ) (zone : Zone) where
    abbrev IsMove : CoreTurn → Type 0
    IsMove turn = IsSpent s a p place (Move proc page zone) turn

    some_left : (x : JobPlace) → 0 < move_turns x
    some_left (moving_page g e unread) = omega arith
    some_left (moving_page g e count) = omega arith
    some_left x = omega arith

    -- it goes on from one place to another
    move_goes : (turn : CoreTurn) (x y : JobPlace) → place_in s a ≡ x → place_in (run s turn.events) a ≡ y → LeavesMoved (run s turn.events) → GoesOn place (place_behind place turn.whats) → move_turns y < move_turns x → IsMove turn
    move_goes turn x y was is left goes less =
        let t : CoreState = run s turn.events in
        let before : move_turns (place_in s a) ≡ move_turns x = ap move_turns was in
        let after : move_turns (place_in t a) ≡ move_turns y = ap move_turns is in
        let pages : mapped_pages (t.right p) ≡ mapped_pages (s.right p) = ap (λ (f : ℕ → ℕ → Option Rights). mapped_pages (f p)) left.right in
        record {
          others = λ q other. ap (λ (f : ℕ → ℕ → Option Rights). f q) left.right;
          grown = λ q parent b grows locked apart. ap (λ (f : ℕ → ℕ → Option Rights). f q) left.right;
          jobs = left.jobs;
          prepared = left.prepared;
          takes = inr (goes.0, omega (arith, before, after, pages, less));
          bound = inr (goes, omega (arith, before, after, less));
          gained = λ q birth. no_more (t.right q) (s.right q) 0 (ap (λ (f : ℕ → ℕ → Option Rights). f q) left.right);
        }

    -- it is answered, and its actor in the middle of nothing
    move_ends : (turn : CoreTurn) → (run s turn.events).job a ≡ idle → LeavesMoved (run s turn.events) → IsAnswered place (place_behind place turn.whats) → IsMove turn
    move_ends turn rests left answered =
        let t : CoreState = run s turn.events in
        let some = some_left (place_in s a) in
        let pages : mapped_pages (t.right p) ≡ mapped_pages (s.right p) = ap (λ (f : ℕ → ℕ → Option Rights). mapped_pages (f p)) left.right in
        record {
          others = λ q other. ap (λ (f : ℕ → ℕ → Option Rights). f q) left.right;
          grown = λ q parent b grows locked apart. ap (λ (f : ℕ → ℕ → Option Rights). f q) left.right;
          jobs = left.jobs;
          prepared = left.prepared;
          takes = inl (answered, rests, omega (arith, some, pages));
          bound = inl answered;
          gained = λ q birth. no_more (t.right q) (s.right q) 0 (ap (λ (f : ℕ → ℕ → Option Rights). f q) left.right);
        }

    clear_spent : s.job a ≡ idle → (right : Option Rights) (entry : Option Entry) → IsMove (clear_turn_by right a p page zone entry)
    clear_spent rests None entry = move_ends (answers_with answers.Missing) rests (stays s a) refl
    clear_spent rests (Some rights) None = move_ends (answers_with answers.Untouched) rests (stays s a) refl
    clear_spent rests (Some rights) (Some e) =
        let turn : CoreTurn = clear_turn_by (Some rights) a p page zone (Some e) in
        let job : Job = moving p page e (Only zone) unread in
        move_goes turn unbegun (moving_page page e unread) (idle_place s a rests)
        (ap (λ (j : Job). job_place j (s.prepared a)) (put_same a job s.job))
        (record { right = refl; jobs = λ b other. put_other a b job s.job other; prepared = λ b other. refl })
        (refl, refl) (omega arith)

    counted_less : (e : Entry) (count : ℕ) → move_turns (moving_page page e (counted_as count)) < 2
    counted_less e count = go (count == 1)
      where
        go : (b : Bool) → move_turns (moving_page page e (if b then counted_one else counted_more count)) < 2
        go true = omega arith
        go false = omega arith

    restores_spent : (e : Entry) (count : Counted) (answer : Answer) → IsMove (restores a p page e (Only zone) count answer)
    restores_spent e count answer =
        move_ends (restores a p page e (Only zone) count answer) (put_same a idle s.job)
        (record { right = refl; jobs = λ b other. put_other a b idle s.job other; prepared = λ b other. refl }) refl

    place_spent : (e : Entry) (free : Option ℕ) → IsMove (place_turn a p page e (Only zone) free)
    place_spent e None = restores_spent e counted_one answers.NoFrame
    place_spent e (Some f) =
        move_ends (place_turn a p page e (Only zone) (Some f)) (put_same a idle s.job)
        (record {
          right = refl;
          jobs = λ b other. put_other a b idle s.job other;
          prepared = λ b other. put_other a b None (put a (Some f) s.prepared) other ∙ put_other a b (Some f) s.prepared other;
        })
        refl

    counted_spent : (g : ℕ) (e : Entry) (count : Counted) → place_in s a ≡ moving_page g e count → g ≡ page → IsMove (counted_turn s a p page e (Only zone) count)
    counted_spent g e unread was own =
        let count : ℕ = s.count e.frame in
        let job : Job = moving p page e (Only zone) (counted_as count) in
        move_goes (counted_turn s a p page e (Only zone) unread) (moving_page page e unread) (moving_page page e (counted_as count))
        (was ∙ ap (λ (k : ℕ). moving_page k e unread) own)
        (ap (λ (j : Job). job_place j (s.prepared a)) (put_same a job s.job))
        (record { right = refl; jobs = λ b other. put_other a b job s.job other; prepared = λ b other. refl })
        (refl, refl) (counted_less e count)
    counted_spent g e counted_one was own = place_spent e (free_in s (Only zone))
    counted_spent g e (counted_more count) was own = restores_spent e (counted_more count) (answers.Busy count)

    move_spent : (job : Job) → s.job a ≡ job → StandsMove s a p page zone job → IsMove (move_turn s a p page zone job)
    move_spent idle is stands = clear_spent is (s.right p page) (s.entry p page)
    move_spent (moving q g e allowed count) is stands = counted_spent g e count (ap (λ (j : Job). job_place j (s.prepared a)) is) stands.1
    move_spent job is stands = absurd stands

    -- none of a failed process is in the middle
    unborn_moved : (job : Job) → s.job a ≡ job → StandsMove s a p page zone job → s.birth p ≡ failed → IsMove (answers_with answers.Unborn)
    unborn_moved idle is stands lost = move_ends (answers_with answers.Unborn) is (stays s a) refl
    unborn_moved (moving q g e allowed count) is stands lost = absurd (let lives : s.birth p ≡ born = stands.4.birth in cc)
    unborn_moved job is stands lost = absurd stands

  -- pins

  module _ (handle page n : ℕ) (want : Want) (fast : Bool) where
    abbrev IsPin : CoreTurn → Type 0
    IsPin turn = IsSpent s a p place (Pin handle page n want fast) turn

    abbrev got : ℕ
    got = length (s.taken a)

    abbrev here : ℕ
    here = page + got

    -- it goes on, and has turns left
    pin_goes : (turn : CoreTurn) → LeavesMoved (run s turn.events) → GoesOn place (place_behind place turn.whats) → place.far + 1 < pins_turns fast want.long n → IsPin turn
    pin_goes turn left goes less =
        let t : CoreState = run s turn.events in
        let far : (place_behind place turn.whats).far ≡ place.far + 1 = goes.1 in
        let pages : mapped_pages (t.right p) ≡ mapped_pages (s.right p) = ap (λ (f : ℕ → ℕ → Option Rights). mapped_pages (f p)) left.right in
        record {
          others = λ q other. ap (λ (f : ℕ → ℕ → Option Rights). f q) left.right;
          grown = λ q parent b grows locked apart. ap (λ (f : ℕ → ℕ → Option Rights). f q) left.right;
          jobs = left.jobs;
          prepared = left.prepared;
          takes = inr (goes.0, omega (arith, far, pages, less));
          bound = inr (goes, omega (arith, far, less));
          gained = λ q birth. no_more (t.right q) (s.right q) 0 (ap (λ (f : ℕ → ℕ → Option Rights). f q) left.right);
        }

    -- it is answered, and its actor in the middle of nothing
    pin_ends : (turn : CoreTurn) → (run s turn.events).job a ≡ idle → LeavesMoved (run s turn.events) → IsAnswered place (place_behind place turn.whats) → place.far < pins_turns fast want.long n → IsPin turn
    pin_ends turn rests left answered less =
        let t : CoreState = run s turn.events in
        let pages : mapped_pages (t.right p) ≡ mapped_pages (s.right p) = ap (λ (f : ℕ → ℕ → Option Rights). mapped_pages (f p)) left.right in
        record {
          others = λ q other. ap (λ (f : ℕ → ℕ → Option Rights). f q) left.right;
          grown = λ q parent b grows locked apart. ap (λ (f : ℕ → ℕ → Option Rights). f q) left.right;
          jobs = left.jobs;
          prepared = left.prepared;
          takes = inl (answered, rests, omega (arith, pages, less));
          bound = inl answered;
          gained = λ q birth. no_more (t.right q) (s.right q) 0 (ap (λ (f : ℕ → ℕ → Option Rights). f q) left.right);
        }

    -- a turn of its walk
    walked_spent : (turn : CoreTurn) → fast ≡ true → place.far + 1 < pins_turns true want.long n → IsWalked s a place turn → IsPin turn
    walked_spent turn walks less (left, inl on) = pin_goes turn left on (subst (λ (b : Bool). place.far + 1 < pins_turns b want.long n) (sym walks) less)
    walked_spent turn walks less (left, inr ends) =
        pin_ends turn ends.1 left ends.0 (subst (λ (b : Bool). place.far < pins_turns b want.long n) (sym walks) (omega (arith, less)))

    -- so many turns of its page are over
    module _ (over : ℕ) (few : FewOver want.long over) (most : place.far ≤ walk_turns fast n + pin_turns want.long got + over) (within : got < n) where
      room : place.far < pins_turns fast want.long n
      room = room_left (walk_turns fast n) want.long got n place.far over few most within

      -- after these events the page is pinned
      pins_spent : (es : List CoreEvent) (g : ℕ) (e : Entry) (last : Bool) → (got + 1 == n) ≡ last → LeavesMoved (run s es) → (run s es).job a ≡ idle → IsPin (pins_behind es a p handle g n want last e)
      pins_spent es g e last test left rests =
          let t : CoreState = run s es in
          let more : List CoreEvent = pin_page a p g e want.write want.long ∷ makes_if last a handle in
          let same : run s (es ++ more) ≡ run t more = run_behind s es more in
          let then_left = pinned_leaves t a p place rests t rests g handle e want last in
          let all : LeavesMoved (run s (es ++ more)) = subst LeavesMoved (sym same) (record {
            right = then_left.right ∙ left.right;
            jobs = λ b other. then_left.jobs.others b other ∙ left.jobs b other;
            prepared = λ b other. then_left.jobs.prepared b other ∙ left.prepared b other;
          }) in
          let idles : (run s (es ++ more)).job a ≡ idle = ap (λ (x : CoreState). x.job a) same ∙ then_left.jobs.idle in
          go last test idles all
        where
          go : (l : Bool) → (got + 1 == n) ≡ l → (run s (pins_behind es a p handle g n want l e).events).job a ≡ idle → LeavesMoved (run s (pins_behind es a p handle g n want l e).events) → IsPin (pins_behind es a p handle g n want l e)
          go true is idles all = pin_ends (pins_behind es a p handle g n want true e) idles all refl room
          go false is idles all = pin_goes (pins_behind es a p handle g n want false e) all (refl, refl) (room_page (walk_turns fast n) want.long got n place.far over few most (grind (arith, nat_tests, within)))

      -- or refused
      refuses_spent : (es : List CoreEvent) (k : ℕ) (answer : Answer) → LeavesMoved (run s es) → (run s es).job a ≡ idle → IsPin (ends_pin es a handle n k answer)
      refuses_spent es zero answer left rests = pin_ends (ends_pin es a handle n zero answer) rests left refl room
      refuses_spent es (suc k) answer left rests =
          let t : CoreState = run s es in
          let same : run s (es ++ make_handle a handle ∷ []) ≡ happens t (make_handle a handle) = run_behind s es (make_handle a handle ∷ []) in
          pin_ends (ends_pin es a handle n (suc k) answer) (ap (λ (x : CoreState). x.job a) same ∙ rests)
          (subst LeavesMoved (sym same) (record { right = left.right; jobs = left.jobs; prepared = left.prepared })) refl room

    -- from idle

    module _ (rests : s.job a ≡ idle) (most : place.far ≤ walk_turns fast n + pin_turns want.long got + 0) (within : got < n) where
      clears_spent : (es : List CoreEvent) (e : Entry) → want.long ≡ true → LeavesMoved (run s es) → IsPin (clears_behind es a p here want e)
      clears_spent es e long left =
          let t : CoreState = run s es in
          let job : Job = moving p here e (zones_of want) unread in
          let same : run s (es ++ clear_entry a p here e (zones_of want) ∷ []) ≡ happens t (clear_entry a p here e (zones_of want)) = run_behind s es (clear_entry a p here e (zones_of want) ∷ []) in
          pin_goes (clears_behind es a p here want e)
          (subst LeavesMoved (sym same) (record {
            right = left.right;
            jobs = λ b other. put_other a b job t.job other ∙ left.jobs b other;
            prepared = left.prepared;
          }))
          (refl, refl) (room_move (walk_turns fast n) want.long got n place.far 0 long (omega arith) most within)

      long_by : (long below : Bool) → (long && below) ≡ true → long ≡ true
      long_by true below is = refl
      long_by false below is = absurd (cc is)

      either_spent : (es : List CoreEvent) (e : Entry) (last moves : Bool) → (got + 1 == n) ≡ last → moves_first (run s es) want e ≡ moves → LeavesMoved (run s es) → (run s es).job a ≡ idle → IsPin (clears_or_pins moves es a p handle here n want last e)
      either_spent es e last true test moves left idles = clears_spent es e (long_by want.long (nat_lt e.frame (run s es).movable) moves) left
      either_spent es e last false test moves left idles = pins_spent 0 (few_idle want.long) most within es here e last test left idles

      fault_spent : (k : ℕ) → got ≡ k → (fault : Fault) → FaultLeaves a fault → IsPin (pin_turn_by fault s a p handle here n k want fast)
      fault_spent k is (Err answer) leaves =
          let raised = raises_leave s a p place rests k fast in
          refuses_spent 0 (few_idle want.long) most within (raises a p k fast) k answer (record { right = raised.right; jobs = raised.jobs.others; prepared = raised.jobs.prepared }) raised.jobs.idle
      fault_spent k is (Ok before) leaves =
          let first : CoreState = run s (raises a p k fast) in
          let raised = raises_leave s a p place rests k fast in
          let es : List CoreEvent = raises a p k fast ++ before in
          let all : LeavesPages s a (run s es) = subst (LeavesPages s a) (sym (run_behind s (raises a p k fast) before)) (leaves_both s a first (run first before) raised (leaves first raised.jobs.idle)) in
          let e : Entry = entry_in ((run s es).entry p here) in
          either_spent es e (k + 1 == n) (moves_first (run s es) want e) (ap (λ (j : ℕ). j + 1 == n) is) refl
          (record { right = all.right; jobs = all.jobs.others; prepared = all.jobs.prepared }) all.jobs.idle

    -- of a page that it moves first

    module _ (e : Entry) (over : ℕ) (most : place.far ≤ walk_turns fast n + pin_turns want.long got + over) (within : got < n) (long : want.long ≡ true) where
      restored : (count : Counted) → LeavesMoved (run s (restore_entry a p here e (zones_of want) count ∷ []))
      restored count = record { right = refl; jobs = λ b other. put_other a b idle s.job other; prepared = λ b other. refl }

      moved_few : over ≡ 2 → FewOver want.long over
      moved_few twice = subst (FewOver want.long) (sym twice) (few_moved want.long long)

      ends_spent : over ≡ 2 → (count : Counted) (answer : Answer) → IsPin (ends_moved a p handle here n got want e count answer)
      ends_spent twice count answer =
          refuses_spent over (moved_few twice) most within (restore_entry a p here e (zones_of want) count ∷ []) got answer (restored count) (put_same a idle s.job)

      placed_spent : over ≡ 2 → (free : Option ℕ) → IsPin (pins_moved a p handle here n got want e free)
      placed_spent twice None = ends_spent twice counted_one answers.NoFrame
      placed_spent twice (Some f) =
          pins_spent over (moved_few twice) most within (take_frame a f ∷ place_frame a p here f e (zones_of want) ∷ put_entry a e.frame ∷ []) here (entry_of f e.writable) (got + 1 == n) refl
          (record {
            right = refl;
            jobs = λ b other. put_other a b idle s.job other;
            prepared = λ b other. put_other a b None (put a (Some f) s.prepared) other ∙ put_other a b (Some f) s.prepared other;
          })
          (put_same a idle s.job)

      moved_spent_by : (count : Counted) → over ≡ turns_over (moving p here e (zones_of want) count) → IsPin (moved_turn s a p handle here n got want e count)
      moved_spent_by unread is =
          let job : Job = moving p here e (zones_of want) (counted_as (s.count e.frame)) in
          pin_goes (moved_turn s a p handle here n got want e unread)
          (record { right = refl; jobs = λ b other. put_other a b job s.job other; prepared = λ b other. refl })
          (refl, refl) (room_move (walk_turns fast n) want.long got n place.far over long (omega (arith, is)) most within)
      moved_spent_by counted_one is = placed_spent is (free_in s (zones_of want))
      moved_spent_by (counted_more count) is = ends_spent is (counted_more count) (answers.Unmovable count)

    -- where it stands: no more turns are over than its pages and this one take, or those of its walk
    pub record StandsPaced (job : Job) : Type 0 where
      pub some : 0 < n
      pub within : IsWithin n got job
      pub most : place.far ≤ most_over fast want.long n got job
      pub flag : s.has_pinned p ≡ true → s.birth p ≡ born
      pub at : StandsAtPage s a p here n got want fast job

    -- it begins its walk, or a page
    begin_spent_by : fast ≡ true → place.far ≡ 0 → IsPin (begin_turn a p want)
    begin_spent_by walks first = walked_spent (begin_turn a p want) walks (begin_more want.long n place.far first) (begins s a p place want)

    begins_spent : s.job a ≡ idle → StandsPaced idle → (begins : Bool) → (fast && place.far == 0) ≡ begins → IsPin (begins_or_pins begins s a p handle page n got want fast)
    begins_spent is stands true test = begin_spent_by (and_first fast (place.far == 0) test) (let first = and_second fast (place.far == 0) test in grind (arith, nat_tests))
    begins_spent is stands false test =
        fault_spent is stands.most stands.within got refl (pin_fault s a p here want.write (frame_for s p here (zones_of want))) (pin_fault_leaves s a p here want.write (frame_for s p here (zones_of want)))

    pin_spent : (job : Job) → s.job a ≡ job → StandsPaced job → IsPin (pin_turn_in s a p handle page n got want fast place.far job)
    pin_spent idle is stands = begins_spent is stands (fast && place.far == 0) refl
    pin_spent (moving q g e allowed count) is stands = moved_spent_by e (turns_over (moving q g e allowed count)) stands.most stands.within stands.at.4.long count (same count)
      where
        same : (c : Counted) → turns_over (moving q g e allowed c) ≡ turns_over (moving p here e (zones_of want) c)
        same unread = refl
        same counted_one = refl
        same (counted_more k) = refl
    pin_spent (walking q write long sequence step) is stands =
        walked_spent (walk_turn s a p handle page n want sequence step) stands.at.walks (walk_more want.long here n got place.far step stands.some stands.at.here stands.within stands.most) (walked s a p place want handle page n sequence step)
    pin_spent job is stands = absurd stands.at

    -- none of a failed process is in the middle of a page, or in its walk
    unborn_pinned : (job : Job) → s.job a ≡ job → StandsPaced job → s.birth p ≡ failed → IsPin (answers_with answers.Unborn)
    unborn_pinned idle is stands lost = pin_ends (answers_with answers.Unborn) is (stays s a) refl (room_left (walk_turns fast n) want.long got n place.far 0 (few_idle want.long) stands.most stands.within)
    unborn_pinned (moving q g e allowed count) is stands lost = absurd (let lives : s.birth p ≡ born = stands.at.4.moving.birth in cc)
    unborn_pinned (walking q write long sequence step) is stands lost = absurd (let lives : s.birth p ≡ born = stands.flag stands.at.flag in cc)
    unborn_pinned job is stands lost = absurd stands.at

  -- where an operation stands: its actor is idle, unless it forks, moves or pins
  abbrev pub StandsAt : Op → Type 0
  StandsAt (Pin handle page n want fast) = StandsPaced handle page n want fast (s.job a)
  StandsAt (Move proc page zone) = StandsMove s a p page zone (s.job a)
  StandsAt (Fork child) = StandsFork s a p child (s.job a) (s.prepared a)
  StandsAt op = (s.job a ≡ idle) × StandsShort s a op place

  -- every operation of a born process, or of whoever waits for no birth
  pub op_spent : (slots : ℕ) (op : Op) → (IsOfProcess op → s.birth p ≡ born) → mapped_pages (s.right p) ≤ 1024 → StandsAt op → IsSpent s a p place op (op_turn s a p slots place.far op)
  op_spent slots (Pin handle page n want fast) birth few stands = pin_spent handle page n want fast (s.job a) refl stands
  op_spent slots (Move proc page zone) birth few stands = move_spent proc page zone (s.job a) refl stands
  op_spent slots (Fork child) birth few stands = fork_spent child (s.job a) refl stands few
  op_spent slots op birth few stands = search (page_op_spent slots op refl, handle_op_spent slots op refl, birth, stands)

  -- every operation of a failed process
  pub failed_spent : (op : Op) → s.birth p ≡ failed → ((k : Forking) → forking_of (s.job a) ≡ Some k → s.birth k.proc ≡ born) → StandsAt op → IsSpent s a p place op (failed_turn a p op)
  failed_spent (Pin handle page n want fast) lost parent stands = unborn_pinned handle page n want fast (s.job a) refl stands lost
  failed_spent (Move proc page zone) lost parent stands = unborn_moved proc page zone (s.job a) refl stands lost
  failed_spent (Fork child) lost parent stands = unborn_by child (s.job a) refl stands parent lost
  failed_spent op lost parent stands = refused_spent op refl stands
