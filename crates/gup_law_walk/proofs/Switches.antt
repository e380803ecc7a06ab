-- An actor's walk begins, takes a step, or ends: what has to be right of the walk and of the pages that the actor has
-- taken, so that the state stays sound.
use Rattle.std.proofs.Common.{◌≡◌, ℕ, ◌+◌, ◌<◌, ◌≤◌, true, false, List, length, sym, subst, arith}
use Rattle.std.specs.Prelude.{Option, Some, None, slice_get}
use Rattle.std.proofs.lemmas.Bool.Decides.{nat_tests}
use Rattle.gup_base.specs.declared.entry.Entry.{Entry}
use Rattle.gup_plain.specs.Put.{put}
use Rattle.gup_spec_events.specs.State.{CoreState, Taken, Job, entered}
use Rattle.gup_spec_events.specs.Event.{writes_taken, long_taken, is_odd}
use Rattle.gup_spec_events.specs.Invariant.{is_inside}
use Rattle.gup_law_base.specs.Sound.{View, Forking, Walking, marking_of, moving_of, forking_of, walking_of, keeps_table, keeps_structure, shared_page, is_open, tried_page, tried_entry, rechecked_entry, unkept, IsSoundBy}
use Rattle.gup_law_base.proofs.Numbers.{by_number}
use Rattle.gup_law_base.proofs.Tally.{number_here}
use Rattle.gup_law_base.proofs.Clauses.{References, Grabs, CountIs, MarksAre, MovesAre, ForksAre, WalksAre, TableHeld, StructureHeld, TakenMarked, TakenOwn, TakenMade, TakenFlag, TakenNames, TakenNormal, TakenWrite, TakenLong, TakenApart, WalksNumber, WalkFlag, WalkEmpty, WalkEven, WalkBelow, WalkProc, WalkWrite, WalkLong, WalkUntaken, WalkWrites, WalkNormal, WalkOwn, WalkUnowned, WalkKept, WalkLast, WalkWritable, PreparedOnce, MovingOnce, ShareTaken}

-- the job of an actor that marks, moves and forks nothing, and so keeps no lock
pub record IsLight (job : Job) : Type 0 where
  pub marking : marking_of job ≡ None
  pub moving : moving_of job ≡ None
  pub forking : forking_of job ≡ None
  pub table : keeps_table job ≡ None
  pub structure : keeps_structure job ≡ None

module _ (v : View) (s : CoreState) (ts : List Taken) where
  -- the pages that an actor has taken, whether they are settled or not
  pub record ArePages : Type 0 where
    pub made : (k : ℕ) (t : Taken) → slice_get ts k ≡ Some t → t.object < s.made
    pub flag : (k : ℕ) (t : Taken) → slice_get ts k ≡ Some t → s.has_pinned t.proc ≡ true
    pub names : (k p g : ℕ) (t : Taken) → slice_get ts k ≡ Some t → v.names p g ≡ Some t.object → (p ≡ t.proc) × (g ≡ t.page)
    pub normal : (k : ℕ) (t : Taken) → slice_get ts k ≡ Some t → t.long ≡ true → s.movable ≤ t.frame
    pub write : (k : ℕ) (t : Taken) → slice_get ts k ≡ Some t → t.write ≡ writes_taken ts
    pub long : (k : ℕ) (t : Taken) → slice_get ts k ≡ Some t → t.long ≡ long_taken ts
    pub apart : (j k : ℕ) (t u : Taken) → slice_get ts j ≡ Some t → slice_get ts k ≡ Some u → t.page ≡ u.page → j ≡ k

  -- no walk has to drop them any more
  pub record AreSettled : Type 0 where
    pub marked : (k : ℕ) (t : Taken) → slice_get ts k ≡ Some t → s.mark t.frame ≡ true
    pub own : (k : ℕ) (t : Taken) → slice_get ts k ≡ Some t → s.own t.frame ≡ Some t.object
    pub share : (b g j : ℕ) (fork : Forking) (e : Entry) (t : Taken) → v.forks b ≡ Some fork → shared_page fork.step ≡ Some g → v.whole fork.proc g ≡ Some e → slice_get ts j ≡ Some t → t.frame ≡ e.frame → ⊥

  -- a walk that has taken them
  pub record IsWalk (w : Walking) : Type 0 where
    pub flag : s.has_pinned w.proc ≡ true
    pub empty : (k : ℕ) (t : Taken) → w.step ≡ entered → slice_get ts k ≡ Some t → ⊥
    pub even : is_inside w.step ≡ true → is_odd w.sequence ≡ false
    pub below : is_inside w.step ≡ true → w.sequence ≤ s.sequence w.proc
    pub proc : (k : ℕ) (t : Taken) → slice_get ts k ≡ Some t → t.proc ≡ w.proc
    pub write : (k : ℕ) (t : Taken) → slice_get ts k ≡ Some t → t.write ≡ w.write
    pub long : (k : ℕ) (t : Taken) → slice_get ts k ≡ Some t → t.long ≡ w.long
    pub untaken : (k g : ℕ) (t : Taken) → tried_page w.step ≡ Some g → slice_get ts k ≡ Some t → t.page ≡ g → ⊥
    pub writes : (e : Entry) → tried_entry w.step ≡ Some e → w.write ≡ true → e.writable ≡ true
    pub normal : (e : Entry) → tried_entry w.step ≡ Some e → w.long ≡ true → s.movable ≤ e.frame
    pub own : (k o : ℕ) (t : Taken) → is_inside w.step ≡ true → w.sequence ≡ s.sequence w.proc → slice_get ts k ≡ Some t → s.own t.frame ≡ Some o → o ≡ t.object
    pub unowned : (k : ℕ) (t : Taken) → is_inside w.step ≡ true → w.sequence ≡ s.sequence w.proc → slice_get ts k ≡ Some t → s.own t.frame ≡ None → s.mark t.frame ≡ false
    pub kept : (k : ℕ) (t : Taken) → is_inside w.step ≡ true → w.sequence ≡ s.sequence w.proc → slice_get ts k ≡ Some t → k + unkept w.step < length ts → s.mark t.frame ≡ true
    pub last : (k : ℕ) (t : Taken) (e : Entry) → rechecked_entry w.step ≡ Some e → slice_get ts k ≡ Some t → k + 1 ≡ length ts → t.frame ≡ e.frame
    pub writable : (k : ℕ) (t : Taken) (e : Entry) → rechecked_entry w.step ≡ Some e → e.writable ≡ true → w.sequence ≡ s.sequence w.proc → slice_get ts k ≡ Some t → k + 1 ≡ length ts → s.mark t.frame ≡ true

  -- all that is known of an actor's walk, if it is in one, and of the pages that it has taken
  pub record IsActor (o : Option Walking) : Type 0 where
    pub pages : ArePages
    pub settled : is_open o ≡ false → AreSettled
    pub walk : (w : Walking) → o ≡ Some w → IsWalk w

pub put_there : {X : Type 0} (a : ℕ) (x : X) (f : ℕ → X) (b : ℕ) → (b ≡ a → ⊥) → put a x f b ≡ f b
put_there a x f b apart = grind (arith, nat_tests)

module _ (v : View) (s : CoreState) (h : IsSoundBy v s) where
  pub actor_is : (b : ℕ) → IsActor v s (s.taken b) (v.walks b)
  actor_is b =
      record {
        pages =
            record {
              made = h.taken_made b;
              flag = h.taken_flag b;
              names = h.taken_names b;
              normal = h.taken_normal b;
              write = h.taken_write b;
              long = h.taken_long b;
              apart = h.taken_apart b;
            };
        settled = λ closed.
            record {
              marked = λ k t is. h.taken_marked b k t is closed;
              own = λ k t is. h.taken_own b k t is closed;
              share = λ c g j fork e t forks shared there is same. h.share_taken c g b j fork e t forks shared there is closed same;
            };
        walk = λ w is.
            record {
              flag = h.walk_flag b w is;
              empty = λ k t. h.walk_empty b k w t is;
              even = h.walk_even b w is;
              below = h.walk_below b w is;
              proc = λ k t. h.walk_proc b k w t is;
              write = λ k t. h.walk_write b k w t is;
              long = λ k t. h.walk_long b k w t is;
              untaken = λ k g t. h.walk_untaken b k g w t is;
              writes = λ e. h.walk_writes b w e is;
              normal = λ e. h.walk_normal b w e is;
              own = λ k o t. h.walk_own b k o w t is;
              unowned = λ k t. h.walk_unowned b k w t is;
              kept = λ k t. h.walk_kept b k w t is;
              last = λ k t e. h.walk_last b k w t e is;
              writable = λ k t e. h.walk_writable b k w t e is;
            };
      }

  module _ (a : ℕ) (job : Job) (walks count references grabs : ℕ → ℕ) (taken : ℕ → List Taken) where
    abbrev pub switched : CoreState
    switched = record s { count = count; walks = walks; job = put a job s.job; taken = taken }

    abbrev pub switched_view : View
    switched_view = record v { walks = put a (walking_of job) v.walks; references = references; grabs = grabs }

    actors_are : ((b : ℕ) → (b ≡ a → ⊥) → taken b ≡ s.taken b) → IsActor v s (taken a) (walking_of job) → (b : ℕ) → IsActor v s (taken b) (put a (walking_of job) v.walks b)
    actors_are there new b =
        by_number b a
        (λ same. subst (λ c. IsActor v s (taken c) (put a (walking_of job) v.walks c)) (sym same) (subst (IsActor v s (taken a)) (sym (number_here a (walking_of job) v.walks)) new))
        (λ apart. subst (λ ts. IsActor v s ts (put a (walking_of job) v.walks b)) (sym (there b apart)) (subst (IsActor v s (s.taken b)) (sym (put_there a (walking_of job) v.walks b apart)) (actor_is b)))

    -- The state is sound after the change of an actor's job, and of the pages that it has taken.
    pub switches : IsLight (s.job a) → IsLight job → ((b : ℕ) → (b ≡ a → ⊥) → taken b ≡ s.taken b) → References switched_view switched → Grabs switched_view switched → CountIs switched_view switched → PreparedOnce switched_view switched → MovingOnce switched_view switched → WalksNumber switched_view switched → IsActor v s (taken a) (walking_of job) → IsSoundBy switched_view switched
    switches was is there references-are grabs-are count_is prepared_once moving_once walks_number new =
        let V : View = switched_view in
        let S : CoreState = switched in
        let all = actors_are there new in
        let marks_are : MarksAre V S = λ b. grind (arith, nat_tests, h.marks_are b, was.marking, is.marking) in
        let moves_are : MovesAre V S = λ b. grind (arith, nat_tests, h.moves_are b, was.moving, is.moving) in
        let forks_are : ForksAre V S = λ b. grind (arith, nat_tests, h.forks_are b, was.forking, is.forking) in
        let walks_are : WalksAre V S = λ b. grind (arith, nat_tests, h.walks_are b) in
        let table_held : TableHeld V S = λ q b. grind (arith, nat_tests, h.table_held q b, was.table) in
        let structure_held : StructureHeld V S = λ q b. grind (arith, nat_tests, h.structure_held q b, was.structure) in
        let taken_marked : TakenMarked V S = λ b k t at closed. ((all b).settled closed).marked k t at in
        let taken_own : TakenOwn V S = λ b k t at closed. ((all b).settled closed).own k t at in
        let taken_made : TakenMade V S = λ b. (all b).pages.made in
        let taken_flag : TakenFlag V S = λ b. (all b).pages.flag in
        let taken_names : TakenNames V S = λ b. (all b).pages.names in
        let taken_normal : TakenNormal V S = λ b. (all b).pages.normal in
        let taken_write : TakenWrite V S = λ b. (all b).pages.write in
        let taken_long : TakenLong V S = λ b. (all b).pages.long in
        let taken_apart : TakenApart V S = λ b. (all b).pages.apart in
        let walk_flag : WalkFlag V S = λ b w at. ((all b).walk w at).flag in
        let walk_empty : WalkEmpty V S = λ b k w t at. ((all b).walk w at).empty k t in
        let walk_even : WalkEven V S = λ b w at. ((all b).walk w at).even in
        let walk_below : WalkBelow V S = λ b w at. ((all b).walk w at).below in
        let walk_proc : WalkProc V S = λ b k w t at. ((all b).walk w at).proc k t in
        let walk_write : WalkWrite V S = λ b k w t at. ((all b).walk w at).write k t in
        let walk_long : WalkLong V S = λ b k w t at. ((all b).walk w at).long k t in
        let walk_untaken : WalkUntaken V S = λ b k g w t at. ((all b).walk w at).untaken k g t in
        let walk_writes : WalkWrites V S = λ b w e at. ((all b).walk w at).writes e in
        let walk_normal : WalkNormal V S = λ b w e at. ((all b).walk w at).normal e in
        let walk_own : WalkOwn V S = λ b k o w t at. ((all b).walk w at).own k o t in
        let walk_unowned : WalkUnowned V S = λ b k w t at. ((all b).walk w at).unowned k t in
        let walk_kept : WalkKept V S = λ b k w t at. ((all b).walk w at).kept k t in
        let walk_last : WalkLast V S = λ b k w t e at. ((all b).walk w at).last k t e in
        let walk_writable : WalkWritable V S = λ b k w t e at. ((all b).walk w at).writable k t e in
        let share_taken : ShareTaken V S = λ b g c j fork e t forks shared whole at closed same. ((all c).settled closed).share b g j fork e t forks shared whole at same in
        let sound : IsSoundBy V S = assumption in
        sound
