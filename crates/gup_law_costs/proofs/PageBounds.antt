-- What a turn of an operation on pages that isn't a fork does to the mapped pages of its process and to jobs, and how
-- far it brings the operation.
use Rattle.std.proofs.Common.{◌≡◌, ℕ, ◌+◌, ◌<◌, ◌≤◌, ◌==◌, Bool, true, false, is_some, if◌then◌else◌, List, [], ◌∷◌, ◌++◌, Option, Some, None, inl, inr, refl, ap, sym, subst, ◌∙◌, zero, suc, arith, append_assoc}
use Rattle.std.specs.Prelude.{◌⊎◌, Ok}
use Rattle.std.proofs.lemmas.Bool.Decides.{nat_tests}
use Rattle.gup_base.specs.Parts.{words_of}
use Rattle.gup_base.specs.declared.entry.Allowed.TheVariants.{Any}
use Rattle.gup_base.specs.declared.entry.Entry.{Entry}
use Rattle.gup_base.specs.declared.entry.Rights.{Rights}
use Rattle.gup_base.specs.declared.entry.Rights.TheVariants.{R, RW}
use Rattle.gup_plain.specs.Put.{put, put2, spread}
use Rattle.gup_plain.specs.Event.{page_numbers}
use Rattle.gup_plain.specs.declared.answer.Answer.{Answer}
use Rattle.gup_plain.specs.declared.answer.Answer.TheVariants as answers
use Rattle.gup_plain.specs.declared.event.PlainEvent.TheVariants as events
use Rattle.gup_plain.specs.declared.note.What.{What}
use Rattle.gup_plain.specs.declared.note.What.TheVariants.{Event}
use Rattle.gup_plain.specs.Denial.{any_unmapped, protect_denial}
use Rattle.gup_script.specs.declared.op.Op.{Op}
use Rattle.gup_script.specs.declared.op.Op.TheVariants.{Map, Unmap, Protect, Discard, Load, Store, Pin, Unpin, Get, Transfer, Mirror, Look, Move, Fork, Exit}
use Rattle.gup_script.specs.Limits.{most_pinned}
use Rattle.gup_spec_events.specs.State.{CoreState, Job, idle, marking}
use Rattle.gup_spec_events.specs.Event.{CoreEvent, happens, protect_pages, lower_entry, drop_entry, discard_entry, upgrade, run}
use Rattle.gup_spec_events.specs.Fault.{Fault, fills, fills_writable, breaks, marks, makes_writable, read_fault, write_fault, gives_back}
use Rattle.gup_spec_journal.specs.Place.{Place, place_behind}
use Rattle.gup_spec_turns.specs.Cost.{mapped_by, op_left, IsAnswered, IsWithinBound}
use Rattle.gup_plain.specs.Pages.{mapped_pages}
use Rattle.gup_spec_turns.specs.MirrorTurns.{fills as fills_slot, mirror_turn, look_turn}
use Rattle.gup_spec_turns.specs.CoreTurn.{CoreTurn, after_fault, answers_with, frame_for, done_if, silent_or_done}
use Rattle.gup_spec_turns.proofs.TurnParts.{loads_after, gets_after, stores_after, store_fault_by, map_turn_by, unmap_turn_by, protect_turn_by, discard_turn_by}
use Rattle.gup_spec_turns.specs.PageTurns.{load_turn, lowers_entry, lowers, lowers_for, lowest_page, exit_turn_by}
use Rattle.gup_spec_turns.specs.PinTurns.{get_turn}
use Rattle.gup_law_turns.proofs.MappedCounts.{mapped_spread, mapped_same, mapped_put, mapped_lost}
use Rattle.gup_law_turns.proofs.Puts.{put_same, put_other}
use Rattle.gup_law_turns.proofs.PageSearches.{lowest_some, undenied_protect}
use Rattle.gup_law_turns.proofs.TurnShapes.{HasLeft}

-- one row of a function of two numbers
put2_row : {X : Type 0} (k l : ℕ) (x : X) (f : ℕ → ℕ → X) → put2 k l x f k ≡ put l x (f k)
put2_row k l x f = grind (arith, nat_tests)

put2_other : {X : Type 0} (k l j : ℕ) (x : X) (f : ℕ → ℕ → X) → (j == k) ≡ false → put2 k l x f j ≡ f j
put2_other k l j x f e = rw e refl

-- an answer is within the bound of every operation
pub answer_bound : (op : Op) (a p : ℕ) (place next : Place) (s t : CoreState) → IsAnswered place next → IsWithinBound op a p place next s t
answer_bound (Unmap page n) a p place next s t is = inl is
answer_bound op a p place next s t is = search (is, inl)

-- where a turn of an operation stands: short of the last page or word that it goes over; forks, moves and pins stand aside
abbrev pub StandsShort : CoreState → (a : ℕ) → Op → Place → Type 0
StandsShort s a (Unmap page n) place = place.far < n
StandsShort s a (Discard page n) place = place.far < n
StandsShort s a (Pin handle page n want fast) place = ⊥
StandsShort s a (Unpin handle) place = (place.far < most_pinned) × HasLeft s a handle place.far
StandsShort s a (Transfer handle outward slot parts) place = place.far < words_of parts
StandsShort s a (Move proc page zone) place = ⊥
StandsShort s a (Fork child) place = ⊥
StandsShort s a op place = Unit {0}

-- the actor is in the middle of nothing, and other actors' jobs stay, and what these have prepared
pub record KeepsJobs (s : CoreState) (a : ℕ) (t : CoreState) : Type 0 where
  pub idle : t.job a ≡ idle
  pub others : (b : ℕ) → (b == a) ≡ false → t.job b ≡ s.job b
  pub prepared : (b : ℕ) → (b == a) ≡ false → t.prepared b ≡ s.prepared b

-- what others have prepared stays where the actor prepares nothing, and where it uses the frame that it prepares
pub same_prepared : (a : ℕ) (f g : ℕ → Option ℕ) → g ≡ f → (b : ℕ) → (b == a) ≡ false → g b ≡ f b
same_prepared a f g same b other = ap (λ (h : ℕ → Option ℕ). h b) same

pub used_prepared : (a frame : ℕ) (f g : ℕ → Option ℕ) → g ≡ put a None (put a (Some frame) f) → (b : ℕ) → (b == a) ≡ false → g b ≡ f b
used_prepared a frame f g used b other =
    ap (λ (h : ℕ → Option ℕ). h b) used ∙ put_other a b None (put a (Some frame) f) other ∙ put_other a b (Some frame) f other

-- A turn leaves the pages of other processes, adds no more pages than the operation maps, and is within its bound.
pub record IsMoved (s : CoreState) (a p : ℕ) (place : Place) (op : Op) (turn : CoreTurn) : Type 0 where
  pub others : (q : ℕ) → (q == p) ≡ false → (run s turn.events).right q ≡ s.right q
  pub gained : mapped_pages ((run s turn.events).right p) ≤ mapped_pages (s.right p) + mapped_by op
  pub jobs : KeepsJobs s a (run s turn.events)
  pub bound : IsWithinBound op a p place (place_behind place turn.whats) s (run s turn.events)

module _ (s : CoreState) (a p : ℕ) (place : Place) (rests : s.job a ≡ idle) where
  -- all jobs stay, and what others have prepared
  kept_jobs : (t : CoreState) → t.job ≡ s.job → ((b : ℕ) → (b == a) ≡ false → t.prepared b ≡ s.prepared b) → KeepsJobs s a t
  kept_jobs t same prepared =
      record {
        idle = ap (λ (f : ℕ → Job). f a) same ∙ rests;
        others = λ b other. ap (λ (f : ℕ → Job). f b) same;
        prepared = prepared;
      }

  -- all jobs stay, and whatever is prepared
  pub same_jobs : (t : CoreState) → t.job ≡ s.job → t.prepared ≡ s.prepared → KeepsJobs s a t
  same_jobs t same prepared = kept_jobs t same (same_prepared a s.prepared t.prepared prepared)

  -- the frame of a page is marked
  marked_jobs : (page f : ℕ) (t : CoreState) → t.job ≡ put a idle (put a (marking p page f) s.job) → t.prepared ≡ s.prepared → KeepsJobs s a t
  marked_jobs page f t is prepared =
      record {
        idle = ap (λ (j : ℕ → Job). j a) is ∙ put_same a idle (put a (marking p page f) s.job);
        others = λ b other. ap (λ (j : ℕ → Job). j b) is ∙ put_other a b idle (put a (marking p page f) s.job) other ∙ put_other a b (marking p page f) s.job other;
        prepared = same_prepared a s.prepared t.prepared prepared;
      }

  -- a turn that leaves all mappings as they were, and goes on or answers
  pub keeping : (op : Op) (turn : CoreTurn) → (run s turn.events).right ≡ s.right → KeepsJobs s a (run s turn.events) → IsWithinBound op a p place (place_behind place turn.whats) s (run s turn.events) → IsMoved s a p place op turn
  keeping op turn same jobs bound =
      let pages : mapped_pages ((run s turn.events).right p) ≡ mapped_pages (s.right p) = ap (λ (f : ℕ → ℕ → Option Rights). mapped_pages (f p)) same in
      record {
        others = λ q other. ap (λ (f : ℕ → ℕ → Option Rights). f q) same;
        gained = omega (arith, pages);
        jobs = jobs;
        bound = bound;
      }

  -- one that answers, and leaves jobs and prepared frames too
  pub still : (op : Op) (turn : CoreTurn) → (run s turn.events).right ≡ s.right → (run s turn.events).job ≡ s.job → (run s turn.events).prepared ≡ s.prepared → IsAnswered place (place_behind place turn.whats) → IsMoved s a p place op turn
  still op turn same jobs prepared answered =
      keeping op turn same (same_jobs (run s turn.events) jobs prepared) (answer_bound op a p place (place_behind place turn.whats) s (run s turn.events) answered)

  -- one that answers, and uses the frame that it prepares
  still_using : (f : ℕ) (op : Op) (turn : CoreTurn) → (run s turn.events).right ≡ s.right → (run s turn.events).job ≡ s.job → (run s turn.events).prepared ≡ put a None (put a (Some f) s.prepared) → IsAnswered place (place_behind place turn.whats) → IsMoved s a p place op turn
  still_using f op turn same jobs prepared answered =
      keeping op turn same (kept_jobs (run s turn.events) jobs (used_prepared a f s.prepared (run s turn.events).prepared prepared)) (answer_bound op a p place (place_behind place turn.whats) s (run s turn.events) answered)

  pub load_moved : (page word : ℕ) (entry : Option Entry) → IsMoved s a p place (Load page word) (load_turn s a p page word entry)
  load_moved page word (Some e) = still (Load page word) (load_turn s a p page word (Some e)) refl refl refl refl
  load_moved page word None = fault (s.right p page) (frame_for s p page Any)
    where
      fault : (rights : Option Rights) (free : Option ℕ) → IsMoved s a p place (Load page word) (loads_after s (read_fault a p page rights None free) a p page word)
      fault None free = still (Load page word) (answers_with answers.Missing) refl refl refl refl
      fault (Some rights) None = still (Load page word) (answers_with answers.NoFrame) refl refl refl refl
      fault (Some rights) (Some f) = still_using f (Load page word) (loads_after s (fills a p page (Some f)) a p page word) refl refl refl refl

  pub get_moved : (handle page : ℕ) (entry : Option Entry) → IsMoved s a p place (Get handle page) (get_turn s a p handle page entry)
  get_moved handle page (Some e) = still (Get handle page) (get_turn s a p handle page (Some e)) refl refl refl refl
  get_moved handle page None = fault (s.right p page) (frame_for s p page Any)
    where
      fault : (rights : Option Rights) (free : Option ℕ) → IsMoved s a p place (Get handle page) (gets_after s (read_fault a p page rights None free) a p handle page)
      fault None free = still (Get handle page) (answers_with answers.Missing) refl refl refl refl
      fault (Some rights) None = still (Get handle page) (answers_with answers.NoFrame) refl refl refl refl
      fault (Some rights) (Some f) = still_using f (Get handle page) (gets_after s (fills a p page (Some f)) a p handle page) refl refl refl refl

  pub mirror_moved : (mirror proc page : ℕ) (entry : Option Entry) → IsMoved s a p place (Mirror mirror proc page) (mirror_turn s a p mirror page entry)
  mirror_moved mirror proc page (Some e) = still (Mirror mirror proc page) (mirror_turn s a p mirror page (Some e)) refl refl refl refl
  mirror_moved mirror proc page None = fault (s.right p page) (frame_for s p page Any)
    where
      filled_by : Fault → CoreTurn
      filled_by before = after_fault before (λ es. fills_slot s es a p mirror page)

      fault : (rights : Option Rights) (free : Option ℕ) → IsMoved s a p place (Mirror mirror proc page) (filled_by (read_fault a p page rights None free))
      fault None free = still (Mirror mirror proc page) (answers_with answers.Missing) refl refl refl refl
      fault (Some rights) None = still (Mirror mirror proc page) (answers_with answers.NoFrame) refl refl refl refl
      fault (Some rights) (Some f) = still_using f (Mirror mirror proc page) (filled_by (fills a p page (Some f))) refl refl refl refl

  pub look_moved : (mirror word : ℕ) (frame : Option ℕ) → IsMoved s a p place (Look mirror word) (look_turn s a mirror word frame)
  look_moved mirror word None = still (Look mirror word) (answers_with answers.Stale) refl refl refl refl
  look_moved mirror word (Some f) = still (Look mirror word) (look_turn s a mirror word (Some f)) refl refl refl refl

  pub store_moved : (page word value : ℕ) (entry : Option Entry) (allowed : Bool) → IsMoved s a p place (Store page word value) (stores_after s (store_fault_by allowed s a p page entry) a p page word value)
  store_moved page word value entry true = still (Store page word value) (stores_after s (Ok []) a p page word value) refl refl refl refl
  store_moved page word value entry false = fault (s.right p page) entry
    where
      stores_by : Fault → CoreTurn
      stores_by before = stores_after s before a p page word value

      by_fill : (free : Option ℕ) → IsMoved s a p place (Store page word value) (stores_after s (fills_writable a p page free) a p page word value)
      by_fill None = still (Store page word value) (answers_with answers.NoFrame) refl refl refl refl
      by_fill (Some f) = still_using f (Store page word value) (stores_after s (fills_writable a p page (Some f)) a p page word value) refl refl refl refl

      by_break : (e : Entry) (free : Option ℕ) → IsMoved s a p place (Store page word value) (stores_after s (breaks a p page e true free) a p page word value)
      by_break e None = still (Store page word value) (answers_with answers.NoFrame) refl refl refl refl
      by_break e (Some f) = still_using f (Store page word value) (stores_after s (breaks a p page e true (Some f)) a p page word value) refl refl refl refl

      by_count : (e : Entry) (one : Bool) → IsMoved s a p place (Store page word value) (stores_after s (if one then Ok (marks a p page e ++ upgrade a p page e.frame ∷ []) else breaks a p page e true (frame_for s p page Any)) a p page word value)
      by_count e true =
          let turn : CoreTurn = stores_by (Ok (marks a p page e ++ upgrade a p page e.frame ∷ [])) in
          keeping (Store page word value) turn refl (marked_jobs page e.frame (run s turn.events) refl refl) refl
      by_count e false = by_break e (frame_for s p page Any)

      by_mark : (e : Entry) (mark : Bool) (count : ℕ) → IsMoved s a p place (Store page word value) (stores_after s (makes_writable a p page e mark count (frame_for s p page Any)) a p page word value)
      by_mark e true count = still (Store page word value) (stores_after s (makes_writable a p page e true count (frame_for s p page Any)) a p page word value) refl refl refl refl
      by_mark e false count = by_count e (count == 1)

      by_entry : (e : Entry) (writable : Bool) → IsMoved s a p place (Store page word value) (stores_after s (if writable then Ok [] else makes_writable a p page e (s.mark e.frame) (s.count e.frame) (frame_for s p page Any)) a p page word value)
      by_entry e true = still (Store page word value) (stores_by (Ok [])) refl refl refl refl
      by_entry e false = by_mark e (s.mark e.frame) (s.count e.frame)

      fault : (rights : Option Rights) (was : Option Entry) → IsMoved s a p place (Store page word value) (stores_after s (write_fault a p page rights was s.mark s.count (frame_for s p page Any)) a p page word value)
      fault None was = still (Store page word value) (answers_with answers.Missing) refl refl refl refl
      fault (Some R) was = still (Store page word value) (answers_with answers.Forbidden) refl refl refl refl
      fault (Some RW) None = by_fill (frame_for s p page Any)
      fault (Some RW) (Some e) = by_entry e e.writable

  pub map_moved : (page n : ℕ) (rights : Rights) (denied : Option Answer) → IsMoved s a p place (Map page n rights) (map_turn_by denied a p page n rights)
  map_moved page n rights (Some answer) = still (Map page n rights) (answers_with answer) refl refl refl refl
  map_moved page n rights None =
      let new : ℕ → Option Rights = spread page n (λ _. Some rights) (s.right p) in
      let turn : CoreTurn = map_turn_by None a p page n rights in
      record {
        others = λ q other. put_other p q new s.right other;
        gained = subst (λ (f : ℕ → Option Rights). mapped_pages f ≤ mapped_pages (s.right p) + n) (sym (put_same p new s.right)) (mapped_spread page n rights (s.right p));
        jobs = same_jobs (run s turn.events) refl refl;
        bound = refl;
      }

  -- Lowered entries leave all mappings and jobs: what is after them happens to a state with the same ones.
  record IsLowered (t : CoreState) (es rest : List CoreEvent) (u : CoreState) : Type 0 where
    pub leads : run t es ≡ run u rest
    pub right : u.right ≡ t.right
    pub job : u.job ≡ t.job
    pub prepared : u.prepared ≡ t.prepared

  lower_one : (t : CoreState) (page f : ℕ) (writable : Bool) (rest : List CoreEvent) → (u : CoreState) × IsLowered t ((if writable then lower_entry a p page f ∷ [] else []) ++ rest) rest u
  lower_one t page f true rest = (happens t (lower_entry a p page f), record { leads = refl; right = refl; job = refl; prepared = refl })
  lower_one t page f false rest = (t, record { leads = refl; right = refl; job = refl; prepared = refl })

  lower_page : (t : CoreState) (page : ℕ) (entry : Option Entry) (rest : List CoreEvent) → (u : CoreState) × IsLowered t (lowers_entry a p page entry ++ rest) rest u
  lower_page t page None rest = (t, record { leads = refl; right = refl; job = refl; prepared = refl })
  lower_page t page (Some e) rest = lower_one t page e.frame e.writable rest

  lower_all : (t : CoreState) (entry : ℕ → Option Entry) (g j : ℕ) (rest : List CoreEvent) → (u : CoreState) × IsLowered t (lowers entry a p g j ++ rest) rest u
  lower_all t entry g zero rest = (t, record { leads = refl; right = refl; job = refl; prepared = refl })
  lower_all t entry g (suc j) rest =
      let one = lower_page t g (entry g) (lowers entry a p (g + 1) j ++ rest) in
      let more = lower_all one.0 entry (g + 1) j rest in
      let whole = append_assoc (lowers_entry a p g (entry g)) (lowers entry a p (g + 1) j) rest in (
        more.0,
        record {
          leads = ap (run t) whole ∙ one.1.leads ∙ more.1.leads;
          right = more.1.right ∙ one.1.right;
          job = more.1.job ∙ one.1.job;
          prepared = more.1.prepared ∙ one.1.prepared;
        },
      )

  lower_for : (rights : Rights) (page n : ℕ) (rest : List CoreEvent) → (u : CoreState) × IsLowered s (lowers_for rights (s.entry p) a p page n ++ rest) rest u
  lower_for R page n rest = lower_all s (s.entry p) page n rest
  lower_for RW page n rest = (s, record { leads = refl; right = refl; job = refl; prepared = refl })

  pub protect_moved : (page n : ℕ) (rights : Rights) (denied : Option Answer) → protect_denial (any_unmapped (s.right p) page n) ≡ denied → IsMoved s a p place (Protect page n rights) (protect_turn_by denied s a p page n rights)
  protect_moved page n rights (Some answer) is = still (Protect page n rights) (answers_with answer) refl refl refl refl
  protect_moved page n rights None is =
      let turn : CoreTurn = protect_turn_by None s a p page n rights in
      let new : ℕ → Option Rights = spread page n (λ _. Some rights) (s.right p) in
      let low = lower_for rights page n (protect_pages a p page n rights ∷ []) in
      let all : (run s turn.events).right ≡ put p new s.right =
      ap (λ (t : CoreState). t.right) low.1.leads ∙ ap (λ (f : ℕ → ℕ → Option Rights). put p (spread page n (λ _. Some rights) (f p)) f) low.1.right in
      let jobs : (run s turn.events).job ≡ s.job = ap (λ (t : CoreState). t.job) low.1.leads ∙ low.1.job in
      let prepared : (run s turn.events).prepared ≡ s.prepared = ap (λ (t : CoreState). t.prepared) low.1.leads ∙ low.1.prepared in
      let row : (run s turn.events).right p ≡ new = ap (λ (f : ℕ → ℕ → Option Rights). f p) all ∙ put_same p new s.right in
      let few = mapped_same page n rights (s.right p) (undenied_protect (s.right p) page n is) in
      let pages : mapped_pages ((run s turn.events).right p) ≡ mapped_pages new = ap mapped_pages row in
      record {
        others = λ q other. ap (λ (f : ℕ → ℕ → Option Rights). f q) all ∙ put_other p q new s.right other;
        gained = omega (arith, few, pages);
        jobs = same_jobs (run s turn.events) jobs prepared;
        bound = refl;
      }

  -- unmap, discard and exit

  back_rights : (t : CoreState) (entry : Option Entry) → (run t (gives_back a entry)).right ≡ t.right
  back_rights t None = refl
  back_rights t (Some e) = refl

  back_jobs : (t : CoreState) (entry : Option Entry) → (run t (gives_back a entry)).job ≡ t.job
  back_jobs t None = refl
  back_jobs t (Some e) = refl

  back_prepared : (t : CoreState) (entry : Option Entry) → (run t (gives_back a entry)).prepared ≡ t.prepared
  back_prepared t None = refl
  back_prepared t (Some e) = refl

  -- what the turn of a page that is taken down does
  abbrev drops : (page : ℕ) → Option Entry → List CoreEvent
  drops page entry = drop_entry a p page entry ∷ gives_back a entry

  dropped : (page : ℕ) (entry : Option Entry) → (run s (drops page entry)).right p ≡ put page None (s.right p)
  dropped page entry =
      ap (λ (f : ℕ → ℕ → Option Rights). f p) (back_rights (happens s (drop_entry a p page entry)) entry) ∙ put2_row p page None s.right

  drop_moved : (op : Op) (page : ℕ) (entry : Option Entry) (whats : List What) → IsWithinBound op a p place (place_behind place whats) s (run s (drops page entry)) → IsMoved s a p place op (record { events = drops page entry; whats = whats })
  drop_moved op page entry whats bound =
      let all = back_rights (happens s (drop_entry a p page entry)) entry in
      let pages : mapped_pages ((run s (drops page entry)).right p) ≡ mapped_pages (put page None (s.right p)) = ap mapped_pages (dropped page entry) in
      let few = mapped_put page (s.right p) in
      record {
        others = λ q other. ap (λ (f : ℕ → ℕ → Option Rights). f q) all ∙ put2_other p page q None s.right other;
        gained = omega (arith, pages, few);
        jobs = same_jobs (run s (drops page entry)) (back_jobs (happens s (drop_entry a p page entry)) entry) (back_prepared (happens s (drop_entry a p page entry)) entry);
        bound = bound;
      }

  discard_kept : (op : Op) (page : ℕ) (entry : Option Entry) (whats : List What) → IsWithinBound op a p place (place_behind place whats) s (run s (discard_entry a p page entry ∷ gives_back a entry)) → IsMoved s a p place op (record { events = discard_entry a p page entry ∷ gives_back a entry; whats = whats })
  discard_kept op page entry whats bound =
      let turn : CoreTurn = record { events = discard_entry a p page entry ∷ gives_back a entry; whats = whats } in
      let behind : CoreState = happens s (discard_entry a p page entry) in
      keeping op turn (back_rights behind entry) (same_jobs (run s turn.events) (back_jobs behind entry) (back_prepared behind entry)) bound

  passed : (op : Op) (whats : List What) → IsWithinBound op a p place (place_behind place whats) s s → IsMoved s a p place op (record { events = []; whats = whats })
  passed op whats bound = keeping op (record { events = []; whats = whats }) refl (same_jobs s refl refl) bound

  pub goes_less : (far n : ℕ) → far < n → (far + 1 == n) ≡ false → far + 1 < n
  goes_less far n less e = grind (arith, nat_tests)

  pub unmap_moved : (page n : ℕ) (rights : Option Rights) (entry : Option Entry) (last : Bool) → place.far < n → (place.far + 1 == n) ≡ last → IsMoved s a p place (Unmap page n) (unmap_turn_by rights a p (page + place.far) entry last)
  unmap_moved page n None entry true far test = passed (Unmap page n) (silent_or_done true) (inl refl)
  unmap_moved page n None entry false far test = passed (Unmap page n) (silent_or_done false) (inr ((refl, refl), goes_less place.far n far test))
  unmap_moved page n (Some rights) entry true far test = drop_moved (Unmap page n) (page + place.far) entry (Event (events.Unmap a p (page + place.far)) ∷ done_if true) (inl refl)
  unmap_moved page n (Some rights) entry false far test = drop_moved (Unmap page n) (page + place.far) entry (Event (events.Unmap a p (page + place.far)) ∷ done_if false) (inr ((refl, refl), goes_less place.far n far test))

  pub discard_moved : (page n : ℕ) (rights : Option Rights) (entry : Option Entry) (last : Bool) → place.far < n → (place.far + 1 == n) ≡ last → IsMoved s a p place (Discard page n) (discard_turn_by rights a p (page + place.far) entry last)
  discard_moved page n None entry true far test = passed (Discard page n) (silent_or_done true) (inl refl)
  discard_moved page n None entry false far test = passed (Discard page n) (silent_or_done false) (inr ((refl, refl), goes_less place.far n far test))
  discard_moved page n (Some rights) entry true far test = discard_kept (Discard page n) (page + place.far) entry (Event (events.Discard a p (page + place.far)) ∷ done_if true) (inl refl)
  discard_moved page n (Some rights) entry false far test = discard_kept (Discard page n) (page + place.far) entry (Event (events.Discard a p (page + place.far)) ∷ done_if false) (inr ((refl, refl), goes_less place.far n far test))

  pub exit_moved : (found : Option ℕ) → lowest_page (s.right p) ≡ found → IsMoved s a p place Exit (exit_turn_by s a p found)
  exit_moved None is = still Exit (answers_with answers.Plain) refl refl refl refl
  exit_moved (Some page) is =
      let found = lowest_some 0 page_numbers page (λ g. is_some (s.right p g)) is in
      drop_moved Exit page (s.entry p page) (Event (events.Unmap a p page) ∷ []) (inr ((refl, refl), (page, omega (arith, found.below), found.passes, dropped page (s.entry p page))))

-- What a turn takes of the cost: the operation is answered, its actor idle, and it leaves less; or it goes on and has
-- less left.
abbrev pub TakesCost : (s t : CoreState) (a : ℕ) → Op → (place next : Place) → (before after : ℕ) → Type 0
TakesCost s t a op place next before after =
    (IsAnswered place next × (t.job a ≡ idle) × (after < op_left s a op place.far + before))
    ⊎ ((next.answered ≡ place.answered) × (op_left t a op next.far + after < op_left s a op place.far + before))

pub takes_cost : (op : Op) (a p : ℕ) (place next : Place) (s t : CoreState) → StandsShort s a op place → t.job a ≡ idle → mapped_pages (t.right p) ≤ mapped_pages (s.right p) + mapped_by op → IsWithinBound op a p place next s t → TakesCost s t a op place next (mapped_pages (s.right p)) (mapped_pages (t.right p))
takes_cost (Unmap page n) a p place next s t short rests gained (inl is) = inl (is, rests, omega arith)
takes_cost (Unmap page n) a p place next s t short rests gained (inr on) = let far = on.0.1 in inr (on.0.0, omega arith)
takes_cost (Discard page n) a p place next s t short rests gained (inl is) = inl (is, rests, omega arith)
takes_cost (Discard page n) a p place next s t short rests gained (inr on) = let far = on.0.1 in inr (on.0.0, omega arith)
takes_cost (Pin handle page n want fast) a p place next s t short rests gained bound = absurd short
takes_cost (Unpin handle) a p place next s t short rests gained (inl is) = let less = short.0 in inl (is, rests, omega arith)
takes_cost (Unpin handle) a p place next s t short rests gained (inr on) =
    let far = on.0.1 in
    let less = short.0 in
    inr (on.0.0, omega arith)
takes_cost (Transfer handle outward slot parts) a p place next s t short rests gained (inl is) = inl (is, rests, omega arith)
takes_cost (Transfer handle outward slot parts) a p place next s t short rests gained (inr on) = let far = on.0.1 in inr (on.0.0, omega arith)
takes_cost (Move proc page zone) a p place next s t short rests gained bound = absurd short
takes_cost (Fork child) a p place next s t short rests gained bound = absurd short
takes_cost Exit a p place next s t short rests gained (inl is) = inl (is, rests, omega arith)
takes_cost Exit a p place next s t short rests gained (inr on) = let less = mapped_lost (s.right p) (t.right p) on.1 in inr (on.0.0, omega arith)
takes_cost op a p place next s t short rests gained bound = inl (bound, rests, omega arith)
