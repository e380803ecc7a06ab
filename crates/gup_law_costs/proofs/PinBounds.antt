-- What the events of a pin's turn do to mapped pages and to jobs; and what a turn of what is done with a pin does, and how far it
-- brings the operation; and so every operation that isn't a fork, a move or a pin.
use Rattle.std.proofs.Common.{◌≡◌, ℕ, ◌+◌, ◌-◌, ◌<◌, ◌==◌, Bool, true, false, if◌then◌else◌, List, [], ◌∷◌, ◌++◌, length, Option, Some, None, inl, inr, refl, ap, ◌∙◌, zero, suc, arith}
use Rattle.std.specs.Prelude.{Ok, Err}
use Rattle.std.proofs.lemmas.List.{length-take-le}
use Rattle.gup_base.specs.Parts.{Part, words_of, word_at}
use Rattle.gup_base.specs.declared.entry.Entry.{Entry}
use Rattle.gup_base.specs.declared.entry.Rights.{Rights}
use Rattle.gup_base.specs.declared.entry.Rights.TheVariants.{R, RW}
use Rattle.gup_base.specs.declared.entry.Want.{Want}
use Rattle.gup_plain.specs.Put.{put}
use Rattle.gup_plain.specs.Denial.{any_mapped, any_unmapped, map_denial, protect_denial, is_held_by, transfer_denial}
use Rattle.gup_plain.specs.declared.answer.Answer.{Answer}
use Rattle.gup_plain.specs.declared.answer.Answer.TheVariants as answers
use Rattle.gup_script.specs.declared.op.Op.{Op}
use Rattle.gup_script.specs.declared.op.Op.TheVariants.{Map, Unmap, Protect, Discard, Load, Store, Unpin, Give, Take, Get, Put, Transfer, Mirror, Look, Exit}
use Rattle.gup_spec_events.specs.State.{CoreState, Job, idle, marking}
use Rattle.gup_spec_events.specs.Event.{take_frame, fill, break_entry, put_entry, pin_page, upgrade, run}
use Rattle.gup_spec_events.specs.Fault.{Fault, fills, fills_writable, breaks, marks, makes_writable, unshares, unshare_fault, write_fault}
use Rattle.gup_spec_journal.specs.Denial.{has_reference}
use Rattle.gup_spec_journal.specs.Place.{Place, place_behind}
use Rattle.gup_spec_turns.specs.Cost.{IsWithinBound}
use Rattle.gup_spec_turns.specs.CoreTurn.{CoreTurn, answers_with, allows_store}
use Rattle.gup_spec_turns.specs.PageTurns.{lowest_page}
use Rattle.gup_spec_turns.specs.PinTurns.{raises, pin_fault, makes_if, but_last, unpinned, take_turn, got_by, got_frame}
use Rattle.gup_spec_turns.proofs.TurnParts.{unpin_turn_by, give_turn_by, put_turn_by, transfer_turn_by}
use Rattle.gup_spec_turns.specs.DeviceTurns.{frame_at, moves_from}
use Rattle.gup_spec_turns.specs.Turn.{op_turn}
use Rattle.gup_law_costs.proofs.PageBounds.{StandsShort, KeepsJobs, IsMoved, same_prepared, used_prepared, same_jobs, keeping, still, goes_less, load_moved, get_moved, mirror_moved, look_moved, store_moved, map_moved, protect_moved, unmap_moved, discard_moved, exit_moved}
use Rattle.gup_law_turns.proofs.MirrorOps.{look_leaves}
use Rattle.gup_law_turns.proofs.Puts.{put_same, put_other}
use Rattle.gup_law_turns.proofs.TurnShapes.{HasLeft, IsOfProcess}

-- Events leave all mappings, the jobs of other actors, and what these have prepared; their own is in the middle of nothing.
pub record LeavesPages (s : CoreState) (a : ℕ) (t : CoreState) : Type 0 where
  pub right : t.right ≡ s.right
  pub jobs : KeepsJobs s a t

pub leaves_both : (s : CoreState) (a : ℕ) (t u : CoreState) → LeavesPages s a t → LeavesPages t a u → LeavesPages s a u
leaves_both s a t u now later =
    record {
      right = later.right ∙ now.right;
      jobs = record {
        idle = later.jobs.idle;
        others = λ b other. later.jobs.others b other ∙ now.jobs.others b other;
        prepared = λ b other. later.jobs.prepared b other ∙ now.jobs.prepared b other;
      };
    }

leaves_kept : (s : CoreState) (a : ℕ) (t : CoreState) → s.job a ≡ idle → t.right ≡ s.right → t.job ≡ s.job → ((b : ℕ) → (b == a) ≡ false → t.prepared b ≡ s.prepared b) → LeavesPages s a t
leaves_kept s a t rests right job prepared =
    record {
      right = right;
      jobs = record {
        idle = ap (λ (f : ℕ → Job). f a) job ∙ rests;
        others = λ b other. ap (λ (f : ℕ → Job). f b) job;
        prepared = prepared;
      };
    }

leaves_same : (s : CoreState) (a : ℕ) (t : CoreState) → s.job a ≡ idle → t.right ≡ s.right → t.job ≡ s.job → t.prepared ≡ s.prepared → LeavesPages s a t
leaves_same s a t rests right job prepared = leaves_kept s a t rests right job (same_prepared a s.prepared t.prepared prepared)

-- the actor uses the frame that it prepares
leaves_used : (f : ℕ) (s : CoreState) (a : ℕ) (t : CoreState) → s.job a ≡ idle → t.right ≡ s.right → t.job ≡ s.job → t.prepared ≡ put a None (put a (Some f) s.prepared) → LeavesPages s a t
leaves_used f s a t rests right job prepared = leaves_kept s a t rests right job (used_prepared a f s.prepared t.prepared prepared)

-- the events of a fault do
abbrev pub FaultLeaves : (a : ℕ) → Fault → Type 0
FaultLeaves a (Ok es) = (s : CoreState) → s.job a ≡ idle → LeavesPages s a (run s es)
FaultLeaves a (Err answer) = Unit {0}

module _ (a p page : ℕ) where
  leaves_marked : (f : ℕ) (s t : CoreState) → t.right ≡ s.right → t.job ≡ put a idle (put a (marking p page f) s.job) → t.prepared ≡ s.prepared → LeavesPages s a t
  leaves_marked f s t right job prepared =
      record {
        right = right;
        jobs = record {
          idle = ap (λ (j : ℕ → Job). j a) job ∙ put_same a idle (put a (marking p page f) s.job);
          others = λ b other. ap (λ (j : ℕ → Job). j b) job ∙ put_other a b idle (put a (marking p page f) s.job) other ∙ put_other a b (marking p page f) s.job other;
          prepared = same_prepared a s.prepared t.prepared prepared;
        };
      }

  fills_leave : (free : Option ℕ) → FaultLeaves a (fills a p page free)
  fills_leave None = tt
  fills_leave (Some f) = λ s rests. leaves_used f s a (run s (take_frame a f ∷ fill a p page f ∷ [])) rests refl refl refl

  fills_writable_leave : (free : Option ℕ) → FaultLeaves a (fills_writable a p page free)
  fills_writable_leave None = tt
  fills_writable_leave (Some f) = λ s rests. leaves_used f s a (run s (take_frame a f ∷ fill a p page f ∷ upgrade a p page f ∷ [])) rests refl refl refl

  breaks_leave : (e : Entry) (writable : Bool) (free : Option ℕ) → FaultLeaves a (breaks a p page e writable free)
  breaks_leave e writable None = tt
  breaks_leave e writable (Some f) =
      λ s rests. leaves_used f s a (run s (take_frame a f ∷ break_entry a p page e.frame f e.writable writable ∷ put_entry a e.frame ∷ [])) rests refl refl refl

  unshares_leave : (e : Entry) (mark : Bool) (count : ℕ) (free : Option ℕ) → FaultLeaves a (unshares a p page e mark count free)
  unshares_leave e true count free = λ s rests. leaves_same s a s rests refl refl refl
  unshares_leave e false count free = go (count == 1)
    where
      go : (one : Bool) → FaultLeaves a (if one then Ok (marks a p page e) else breaks a p page e false free)
      go true = λ s rests. leaves_marked e.frame s (run s (marks a p page e)) refl refl refl
      go false = breaks_leave e false free

  makes_leave : (e : Entry) (mark : Bool) (count : ℕ) (free : Option ℕ) → FaultLeaves a (makes_writable a p page e mark count free)
  makes_leave e true count free = λ s rests. leaves_same s a (run s (upgrade a p page e.frame ∷ [])) rests refl refl refl
  makes_leave e false count free = go (count == 1)
    where
      go : (one : Bool) → FaultLeaves a (if one then Ok (marks a p page e ++ upgrade a p page e.frame ∷ []) else breaks a p page e true free)
      go true = λ s rests. leaves_marked e.frame s (run s (marks a p page e ++ upgrade a p page e.frame ∷ [])) refl refl refl
      go false = breaks_leave e true free

  unshare_leaves : (rights : Option Rights) (entry : Option Entry) (mark : ℕ → Bool) (count : ℕ → ℕ) (free : Option ℕ) → FaultLeaves a (unshare_fault a p page rights entry mark count free)
  unshare_leaves None entry mark count free = tt
  unshare_leaves (Some rights) None mark count free = fills_leave free
  unshare_leaves (Some rights) (Some e) mark count free = unshares_leave e (mark e.frame) (count e.frame) free

  write_leaves : (rights : Option Rights) (entry : Option Entry) (mark : ℕ → Bool) (count : ℕ → ℕ) (free : Option ℕ) → FaultLeaves a (write_fault a p page rights entry mark count free)
  write_leaves None entry mark count free = tt
  write_leaves (Some R) entry mark count free = tt
  write_leaves (Some RW) None mark count free = fills_writable_leave free
  write_leaves (Some RW) (Some e) mark count free = go e.writable
    where
      go : (writable : Bool) → FaultLeaves a (if writable then Ok [] else makes_writable a p page e (mark e.frame) (count e.frame) free)
      go true = λ s rests. leaves_same s a s rests refl refl refl
      go false = makes_leave e (mark e.frame) (count e.frame) free

pub pin_fault_leaves : (s : CoreState) (a p page : ℕ) (write : Bool) (free : Option ℕ) → FaultLeaves a (pin_fault s a p page write free)
pin_fault_leaves s a p page true free = write_leaves a p page (s.right p page) (s.entry p page) s.mark s.count free
pin_fault_leaves s a p page false free = unshare_leaves a p page (s.right p page) (s.entry p page) s.mark s.count free

module _ (s : CoreState) (a p : ℕ) (place : Place) (rests : s.job a ≡ idle) where
  -- a pin

  pub raises_leave : (got : ℕ) (fast : Bool) → LeavesPages s a (run s (raises a p got fast))
  raises_leave zero false = leaves_same s a (run s (raises a p 0 false)) rests refl refl refl
  raises_leave zero true = leaves_same s a s rests refl refl refl
  raises_leave (suc got) fast = leaves_same s a s rests refl refl refl

  pub pinned_leaves : (t : CoreState) → t.job a ≡ idle → (page handle : ℕ) (e : Entry) (want : Want) (last : Bool) → LeavesPages t a (run t (pin_page a p page e want.write want.long ∷ makes_if last a handle))
  pinned_leaves t idles page handle e want true = leaves_same t a (run t (pin_page a p page e want.write want.long ∷ makes_if true a handle)) idles refl refl refl
  pinned_leaves t idles page handle e want false = leaves_same t a (run t (pin_page a p page e want.write want.long ∷ makes_if false a handle)) idles refl refl refl

  -- what is done with a pin that is made

  -- what is left after the last page of a pin, where that isn't the only one
  more_left : (pinned left : List ℕ) (f : ℕ) → 0 < length pinned → but_last pinned ≡ f ∷ left → 1 < length pinned
  more_left pinned left f some is =
      let many = length-take-le (length pinned - 1) pinned (omega arith) in
      let same : length (but_last pinned) ≡ suc (length left) = ap length is in
      omega (arith, many, same, some)

  unpin_moved : (handle : ℕ) (held : Bool) → is_held_by (s.handle handle) a ≡ held → HasLeft s a handle place.far → IsMoved s a p place (Unpin handle) (unpin_turn_by held a handle (s.pinned handle))
  unpin_moved handle false is left = still s a p place rests (Unpin handle) (answers_with answers.NotHeld) refl refl refl refl
  unpin_moved handle true is left =
      let turn : CoreTurn = unpin_turn_by true a handle (s.pinned handle) in
      keeping s a p place rests (Unpin handle) turn refl (same_jobs s a p place rests (run s turn.events) refl refl) (bound (but_last (s.pinned handle)) refl)
    where
      bound : (rest : List ℕ) → but_last (s.pinned handle) ≡ rest → IsWithinBound (Unpin handle) a p place (place_behind place (unpinned rest a handle)) s (run s (unpin_turn_by true a handle (s.pinned handle)).events)
      bound [] none = inl refl
      bound (f ∷ rest) some =
          let has = left is in
          let more = more_left (s.pinned handle) rest f has.0 some in
          inr ((refl, refl), omega (arith, has.1, more))

  give_moved : (handle to : ℕ) (held : Bool) → IsMoved s a p place (Give handle to) (give_turn_by held a handle to)
  give_moved handle to false = still s a p place rests (Give handle to) (give_turn_by false a handle to) refl refl refl refl
  give_moved handle to true = still s a p place rests (Give handle to) (give_turn_by true a handle to) refl refl refl refl

  put_moved : (handle : ℕ) (held : Bool) (f : ℕ) → IsMoved s a p place (Put handle) (put_turn_by held a handle f)
  put_moved handle false f = still s a p place rests (Put handle) (put_turn_by false a handle f) refl refl refl refl
  put_moved handle true f = still s a p place rests (Put handle) (put_turn_by true a handle f) refl refl refl refl

  word_moved : (handle : ℕ) (outward : Bool) (slot : ℕ) (parts : List Part) (i j f : ℕ) (last : Bool) → place.far < words_of parts → (place.far + 1 == words_of parts) ≡ last → IsMoved s a p place (Transfer handle outward slot parts) (moves_from s a handle outward last i j f)
  word_moved handle true slot parts i j f true less test = still s a p place rests (Transfer handle true slot parts) (moves_from s a handle true true i j f) refl refl refl refl
  word_moved handle false slot parts i j f true less test = still s a p place rests (Transfer handle false slot parts) (moves_from s a handle false true i j f) refl refl refl refl
  word_moved handle true slot parts i j f false less test =
      let turn : CoreTurn = moves_from s a handle true false i j f in
      keeping s a p place rests (Transfer handle true slot parts) turn refl (same_jobs s a p place rests (run s turn.events) refl refl) (inr ((refl, refl), goes_less s a p place rests place.far (words_of parts) less test))
  word_moved handle false slot parts i j f false less test =
      let turn : CoreTurn = moves_from s a handle false false i j f in
      keeping s a p place rests (Transfer handle false slot parts) turn refl (same_jobs s a p place rests (run s turn.events) refl refl) (inr ((refl, refl), goes_less s a p place rests place.far (words_of parts) less test))

  transfer_moved : (handle : ℕ) (outward : Bool) (slot : ℕ) (parts : List Part) (denied : Option Answer) (last : Bool) → place.far < words_of parts → (place.far + 1 == words_of parts) ≡ last → IsMoved s a p place (Transfer handle outward slot parts) (transfer_turn_by denied s a handle outward last (word_at parts place.far) (slot + place.far))
  transfer_moved handle outward slot parts (Some answer) last less test = still s a p place rests (Transfer handle outward slot parts) (answers_with answer) refl refl refl refl
  transfer_moved handle outward slot parts None last less test =
      word_moved handle outward slot parts (word_at parts place.far) (slot + place.far) (frame_at (s.pinned handle) (word_at parts place.far)) last less test

  -- every operation that is built, but a fork
  pub op_moved : (slots : ℕ) (op : Op) → StandsShort s a op place → IsMoved s a p place op (op_turn s a p slots place.far op)
  op_moved slots (Map page n rights) short = map_moved s a p place rests page n rights (map_denial (any_mapped (s.right p) page n) (s.pages p) n)
  op_moved slots (Unmap page n) short = unmap_moved s a p place rests page n (s.right p (page + place.far)) (s.entry p (page + place.far)) (place.far + 1 == n) short refl
  op_moved slots (Load page word) short = load_moved s a p place rests page word (s.entry p page)
  op_moved slots (Store page word value) short = store_moved s a p place rests page word value (s.entry p page) (allows_store (s.entry p page))
  op_moved slots (Protect page n rights) short = protect_moved s a p place rests page n rights (protect_denial (any_unmapped (s.right p) page n)) refl
  op_moved slots (Discard page n) short = discard_moved s a p place rests page n (s.right p (page + place.far)) (s.entry p (page + place.far)) (place.far + 1 == n) short refl
  op_moved slots (Unpin handle) short = unpin_moved handle (is_held_by (s.handle handle) a) refl short.1
  op_moved slots (Give handle to) short = give_moved handle to (is_held_by (s.handle handle) a)
  op_moved slots (Take handle) short = still s a p place rests (Take handle) (take_turn a handle) refl refl refl refl
  op_moved slots (Get handle page) short = get_moved s a p place rests handle page (s.entry p page)
  op_moved slots (Put handle) short = put_moved handle (has_reference (got_by (s.got handle)) a) (got_frame (s.got handle))
  op_moved slots (Transfer handle outward slot parts) short =
      transfer_moved handle outward slot parts (transfer_denial (s.handle handle) a outward slots slot parts) (place.far + 1 == words_of parts) short refl
  op_moved slots (Mirror mirror proc page) short = mirror_moved s a p place rests mirror proc page (s.entry p page)
  op_moved slots (Look mirror word) short = look_moved s a p place rests mirror word (s.mirrored mirror)
  op_moved slots Exit short = exit_moved s a p place rests (lowest_page (s.right p)) refl
  op_moved slots op short = absurd short

-- what is done with a pin that is made leaves all mappings

kept_unpin : (s : CoreState) (a handle : ℕ) (held : Bool) → (run s (unpin_turn_by held a handle (s.pinned handle)).events).right ≡ s.right
kept_unpin s a handle true = refl
kept_unpin s a handle false = refl

kept_give : (s : CoreState) (a handle to : ℕ) (held : Bool) → (run s (give_turn_by held a handle to).events).right ≡ s.right
kept_give s a handle to true = refl
kept_give s a handle to false = refl

kept_word : (s : CoreState) (a handle : ℕ) (outward last : Bool) (i j : ℕ) (denied : Option Answer) → (run s (transfer_turn_by denied s a handle outward last i j).events).right ≡ s.right
kept_word s a handle outward last i j (Some answer) = refl
kept_word s a handle true last i j None = refl
kept_word s a handle false last i j None = refl

pub kept_rights : (s : CoreState) (a p slots far : ℕ) (op : Op) → (IsOfProcess op → ⊥) → (run s (op_turn s a p slots far op).events).right ≡ s.right
kept_rights s a p slots far (Unpin handle) none = kept_unpin s a handle (is_held_by (s.handle handle) a)
kept_rights s a p slots far (Give handle to) none = kept_give s a handle to (is_held_by (s.handle handle) a)
kept_rights s a p slots far (Take handle) none = refl
kept_rights s a p slots far (Transfer handle outward slot parts) none =
    kept_word s a handle outward (far + 1 == words_of parts) (word_at parts far) (slot + far) (transfer_denial (s.handle handle) a outward slots slot parts)
kept_rights s a p slots far (Look mirror word) none = ap (λ (t : CoreState). t.right) (look_leaves s a mirror word (s.mirrored mirror))
kept_rights s a p slots far op none = absurd (none tt)
