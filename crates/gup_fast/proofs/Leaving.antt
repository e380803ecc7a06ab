-- What the events of a walk's steps leave alone: other processes, other actors, and all that no walk changes.
use Rattle.std.specs.Prelude.{◌≡◌, ℕ, ◌==◌, ◌||◌, Bool, true, false, List, [], ◌∷◌, Option, Some, None, zero, suc}
use Rattle.std.proofs.Common.{refl, ◌∙◌, arith}
use Rattle.std.proofs.lemmas.Bool.Decides.{nat_tests}
use Rattle.gup_base.specs.declared.entry.Entry.{Entry}
use Rattle.gup_base.specs.declared.entry.Want.{Want}
use Rattle.gup_plain.specs.Put.{put}
use Rattle.gup_plain.specs.State.{Birth, Handle, Noted}
use Rattle.gup_space.specs.Shows.{ShowsSpace}
use Rattle.gup_space.specs.Space.{SpaceValue}
use Rattle.gup_spec_events.specs.State.{CoreState, Taken, WalkStep, differed, refused, dropping}
use Rattle.gup_spec_events.specs.Event.{CoreEvent, is_odd, taken_frames, happens, run, raise_flag, enter_walk, read_sequence, read_link, read_entry, grab_frame, miss_frame, recheck_above, recheck_same, recheck_other, read_mark, read_again, drop_grab, drop_last, drop_first, leave_walk, tree_in}
use Rattle.gup_spec_tables.specs.Tables.{TreeValue}
use Rattle.gup_spec_tables.specs.Paths.{link_at}
use Rattle.gup_spec_events.specs.Descent.{led_on, reads_on, reads_down}
use Rattle.gup_fast.specs.Walks.{WalkValue, Stage, at, is_none_left, leaves_if, flags, reads_sequence, grabs, rechecks, reads_again, split_last, drops_last, drops_first, drops}

-- an event of a walk of process p by actor a
pub data IsWalking (a p : ℕ) : CoreEvent → Type 0 where
  flagging : IsWalking a p (raise_flag a p)
  entering : (write long : Bool) → IsWalking a p (enter_walk a p write long)
  reading_sequence : (write long : Bool) (sequence : ℕ) → IsWalking a p (read_sequence a p write long sequence)
  reading_link : (write long : Bool) (sequence page : ℕ) (path : List ℕ) (next : Option ℕ) → IsWalking a p (read_link a p write long sequence page path next)
  reading_entry : (write long : Bool) (sequence page : ℕ) (path : List ℕ) (was : Option Entry) → IsWalking a p (read_entry a p write long sequence page path was)
  grabbing_it : (write long : Bool) (sequence page : ℕ) (path : List ℕ) (e : Entry) → IsWalking a p (grab_frame a p write long sequence page path e)
  missing : (write long : Bool) (sequence page : ℕ) (path : List ℕ) (e : Entry) → IsWalking a p (miss_frame a p write long sequence page path e)
  rechecking_above : (write long : Bool) (sequence page : ℕ) (path : List ℕ) (e : Entry) (same : Bool) → IsWalking a p (recheck_above a p write long sequence page path e same)
  finding_same : (write long : Bool) (sequence page : ℕ) (path : List ℕ) (e : Entry) → IsWalking a p (recheck_same a p write long sequence page path e)
  finding_other : (write long : Bool) (sequence page : ℕ) (path : List ℕ) (e : Entry) → IsWalking a p (recheck_other a p write long sequence page path e)
  reading_mark : (write long : Bool) (sequence page : ℕ) (e : Entry) (mark : Bool) → IsWalking a p (read_mark a p write long sequence page e mark)
  reading_again : (write long : Bool) (sequence : ℕ) (step : WalkStep) (now : ℕ) → IsWalking a p (read_again a p write long sequence step now)
  dropping_grab : (write long : Bool) (sequence f : ℕ) → IsWalking a p (drop_grab a p write long sequence f)
  dropping_last : (write long : Bool) (sequence : ℕ) (others : List Taken) (last : Taken) → IsWalking a p (drop_last a p write long sequence others last)
  dropping_first : (write long : Bool) (sequence : ℕ) (first : Taken) (others : List Taken) → IsWalking a p (drop_first a p write long sequence first others)
  leaving : (write long : Bool) (sequence : ℕ) → IsWalking a p (leave_walk a p write long sequence)

-- each of them is
abbrev pub AreWalking : (a p : ℕ) → List CoreEvent → Type 0
AreWalking a p [] = Unit {0}
AreWalking a p (e ∷ es) = IsWalking a p e × AreWalking a p es

-- ---- the events of each step

leaves_walking : (over : Bool) (a p : ℕ) (want : Want) (sequence : ℕ) → AreWalking a p (leaves_if over a p want sequence)
leaves_walking true a p want sequence = (leaving _ _ sequence, tt)
leaves_walking false a p want sequence = tt

pub flags_walking : (a p : ℕ) (w : WalkValue) → AreWalking a p (flags a p w)
flags_walking a p w = (flagging, (entering _ _, tt))

pub sequence_walking : (a p sequence : ℕ) (w : WalkValue) → AreWalking a p (reads_sequence a p sequence w)
sequence_walking a p sequence w = (reading_sequence _ _ sequence, leaves_walking (is_odd sequence) a p w.want sequence)

reads_walking : (v : TreeValue) (a p : ℕ) (write long : Bool) (sequence page n : ℕ) (path : List ℕ) → AreWalking a p (reads_on v a p write long sequence page n path)
reads_walking v a p write long sequence page zero path = (reading_entry write long sequence page path _, tt)
reads_walking v a p write long sequence page (suc n) path = (
  reading_link write long sequence page path (link_at v path page),
  go (link_at v path page) (λ table. reads_walking v a p write long sequence page n (table ∷ path)),
)
  where
    go : (o : Option ℕ) → ((table : ℕ) → AreWalking a p (reads_on v a p write long sequence page n (table ∷ path))) → AreWalking a p (led_on (λ table. reads_on v a p write long sequence page n (table ∷ path)) o)
    go None goes = tt
    go (Some table) goes = goes table

pub read_walking : (s : CoreState) (a p : ℕ) (write long : Bool) (sequence page : ℕ) → AreWalking a p (reads_down s a p write long sequence page)
read_walking s a p write long sequence page = reads_walking (tree_in s p) a p write long sequence page 3 []

pub grabs_walking : (a p page count : ℕ) (path : List ℕ) (e : Entry) (w : WalkValue) → AreWalking a p (grabs a p page count path e w)
grabs_walking a p page zero path e w = (missing _ _ _ page path e, tt)
grabs_walking a p page (suc n) path e w = (grabbing_it _ _ _ page path e, tt)

pub rechecks_walking : (a p page : ℕ) (path : List ℕ) (e : Entry) (leads same : Bool) (w : WalkValue) → AreWalking a p (rechecks a p page path e leads same w)
rechecks_walking a p page path e true true w = (rechecking_above _ _ _ page path e true, (finding_same _ _ _ page path e, tt))
rechecks_walking a p page path e true false w = (rechecking_above _ _ _ page path e true, (finding_other _ _ _ page path e, tt))
rechecks_walking a p page path e false same w = (rechecking_above _ _ _ page path e false, tt)

pub mark_walking : (a p : ℕ) (write long : Bool) (sequence page : ℕ) (e : Entry) (mark : Bool) → AreWalking a p (read_mark a p write long sequence page e mark ∷ [])
mark_walking a p write long sequence page e mark = (reading_mark write long sequence page e mark, tt)

pub again_walking : (a p now : ℕ) (step : WalkStep) (w : WalkValue) → AreWalking a p (reads_again a p now step w)
again_walking a p now step w =
    (reading_again _ _ _ step now, leaves_walking ((now == w.sequence) || is_none_left w.taken) a p w.want w.sequence)

drops_last_walking : (a p : ℕ) (w : WalkValue) (parts : Option (List Taken × Taken)) → AreWalking a p (drops_last a p w parts)
drops_last_walking a p w None = tt
drops_last_walking a p w (Some (others, last)) = (dropping_last _ _ _ others last, tt)

drops_first_walking : (a p : ℕ) (w : WalkValue) (taken : List Taken) → AreWalking a p (drops_first a p w taken)
drops_first_walking a p w [] = tt
drops_first_walking a p w (t ∷ others) =
    (dropping_first _ _ _ t others, leaves_walking (is_none_left (taken_frames others)) a p w.want w.sequence)

pub drops_walking : (a p : ℕ) (w : WalkValue) (stage : Stage) (taken : List Taken) → AreWalking a p (drops a p w stage taken)
drops_walking a p w (at (differed f)) taken = (dropping_grab _ _ _ f, tt)
drops_walking a p w (at refused) taken = drops_last_walking a p w (split_last taken)
drops_walking a p w (at dropping) taken = drops_first_walking a p w taken
drops_walking a p w stage taken = tt

-- ---- what they leave

-- what each such event leaves, a list of them leaves
through : {X : Type 0} (a p : ℕ) (part : CoreState → X) → ((s : CoreState) (e : CoreEvent) → IsWalking a p e → part (happens s e) ≡ part s)
    → (s : CoreState) (es : List CoreEvent) → AreWalking a p es → part (run s es) ≡ part s
through a p part each s [] all = refl
through a p part each s (e ∷ es) all = through a p part each (happens s e) es all.1 ∙ each s e all.0

-- other processes

leaves_other : (a p q : ℕ) (space : SpaceValue) (s : CoreState) {e : CoreEvent} → (p ≡ q → ⊥) → IsWalking a p e → ShowsSpace q space s → ShowsSpace q space (happens s e)
leaves_other a p q space s other flagging h =
    record { right = h.right; pages = h.pages; entry = h.entry; sequence = h.sequence; has_pinned = grind (arith, nat_tests, h.has_pinned); structure = h.structure; table = h.table; walks = h.walks; place = h.place; retired = h.retired }
leaves_other a p q space s other (entering write long) h =
    record { right = h.right; pages = h.pages; entry = h.entry; sequence = h.sequence; has_pinned = h.has_pinned; structure = h.structure; table = h.table; walks = grind (arith, nat_tests, h.walks); place = h.place; retired = h.retired }
leaves_other a p q space s other (leaving write long sequence) h =
    record { right = h.right; pages = h.pages; entry = h.entry; sequence = h.sequence; has_pinned = h.has_pinned; structure = h.structure; table = h.table; walks = grind (arith, nat_tests, h.walks); place = h.place; retired = h.retired }
leaves_other a p q space s other event h =
    record { right = h.right; pages = h.pages; entry = h.entry; sequence = h.sequence; has_pinned = h.has_pinned; structure = h.structure; table = h.table; walks = h.walks; place = h.place; retired = h.retired }

pub leave_other : (a p q : ℕ) (space : SpaceValue) (s : CoreState) (es : List CoreEvent) → (p ≡ q → ⊥) → AreWalking a p es → ShowsSpace q space s → ShowsSpace q space (run s es)
leave_other a p q space s [] other all h = h
leave_other a p q space s (e ∷ es) other all h =
    leave_other a p q space (happens s e) es other all.1 (leaves_other a p q space s other all.0 h)

-- other actors

put_other : {X : Type 0} (a b : ℕ) (x : X) (f : ℕ → X) → (b ≡ a → ⊥) → put a x f b ≡ f b
put_other a b x f other = grind (arith, nat_tests)

walking_job : (a p b : ℕ) (s : CoreState) {e : CoreEvent} → (b ≡ a → ⊥) → IsWalking a p e → (happens s e).job b ≡ s.job b
walking_job a p b s other flagging = refl
walking_job a p b s other event = put_other a b _ s.job other

pub walkings_jobs : (a p b : ℕ) (s : CoreState) (es : List CoreEvent) → (b ≡ a → ⊥) → AreWalking a p es → (run s es).job b ≡ s.job b
walkings_jobs a p b s es other all = through a p (λ x. x.job b) (λ x e is. walking_job a p b x other is) s es all

walking_taken : (a p b : ℕ) (s : CoreState) {e : CoreEvent} → (b ≡ a → ⊥) → IsWalking a p e → (happens s e).taken b ≡ s.taken b
walking_taken a p b s other (finding_same write long sequence page path e) = put_other a b _ s.taken other
walking_taken a p b s other (dropping_last write long sequence others last) = put_other a b others s.taken other
walking_taken a p b s other (dropping_first write long sequence first others) = put_other a b others s.taken other
walking_taken a p b s other event = refl

pub walkings_taken : (a p b : ℕ) (s : CoreState) (es : List CoreEvent) → (b ≡ a → ⊥) → AreWalking a p es → (run s es).taken b ≡ s.taken b
walkings_taken a p b s es other all = through a p (λ x. x.taken b) (λ x e is. walking_taken a p b x other is) s es all

-- what no walk changes

-- births, stores, handles and the pages that they have, mirrors, got references, and prepared and owed frames
abbrev pub Unwalked : Type 0
Unwalked = (ℕ → Birth) × (ℕ → ℕ → ℕ) × (ℕ → Handle) × (ℕ → List ℕ) × (ℕ → Bool) × (ℕ → Option (ℕ × ℕ)) × (ℕ → Option ℕ) × (ℕ → Option Noted) × (ℕ → Option ℕ) × (ℕ → Option ℕ)

abbrev pub unwalked_of : CoreState → Unwalked
unwalked_of s = (s.birth, s.store, s.handle, s.pinned, s.for_long, s.got, s.mirrored, s.slot, s.prepared, s.owed)

walking_leaves : (a p : ℕ) (s : CoreState) {e : CoreEvent} → IsWalking a p e → unwalked_of (happens s e) ≡ unwalked_of s
walking_leaves a p s flagging = refl
walking_leaves a p s event = refl

pub walkings_leave : (a p : ℕ) (s : CoreState) (es : List CoreEvent) → AreWalking a p es → unwalked_of (run s es) ≡ unwalked_of s
walkings_leave a p s es all = through a p unwalked_of (λ x e is. walking_leaves a p x is) s es all
