use Rattle.std.proofs.Common.{◌≡◌, ℕ, ◌<◌, length, slice_get, Option, Some, None, IfSome, refl, sym, ap, ◌∙◌, subst}
use Rattle.gup_frames.specs.Frames.{frames_of, IsFrame}
use Rattle.gup_script.specs.declared.op.Op.{Op}
use Rattle.gup_script.specs.declared.op.Op.TheVariants.{Fork}
use Rattle.gup_spec_turns.specs.JobPlace.{JobPlace as Place, unbegun}
use Rattle.gup_op_base.specs.Jobs.{place_of}
use Rattle.gup_op_tables.specs.Turns.{ShrinksFor, child_at}
use Rattle.gup_notify.specs.Mirrors.{mirrors_of}
use Rattle.gup_tables.specs.Pool.{pool_of}
use Rattle.gup_law_turns.proofs.TurnAsOwn.{lost_own}
use Rattle.gup_op_base.specs.Said.{whats_of}
use Rattle.gup_op_waits.specs.Births.{HasFailed}
use Rattle.gup_op_waits.specs.declared.parts.Parts.{Parts}
use Rattle.gup_op_tables.specs.declared.pages.Spot.{Spot as KeptSpot}
use Rattle.gup_op_turns.proofs.OwnTables.{owned_before, owned_after}
use Rattle.gup_op_turns.proofs.ReadyGrown.{ready_grown, tidy_numbered, each_numbered}
use Rattle.gup_op_turns.proofs.Refusing.{refused, birth_failed}
use Rattle.gup_op_turns.proofs.Singles.{any_process}
use Rattle.gup_op_turns.proofs.SlotTurns.{refused_mirrors}
use Rattle.gup_op_turns.proofs.Turning.{with_mirrors}
use Rattle.gup_op_turns.proofs.WholeTurn.{same_whole, same_mirrors, whole, whole_mirrors}
use Rattle.gup_op_turns.proofs.slots.take_turn.Goals as goal

-- ---- of a failed process

pub returns-then-has_failed-clause-turn : goal.returns-then-has_failed-clause-turn
returns-then-has_failed-clause-turn c =
    let a = c.args in
    let actor = a.head.now.actor in
    let op = a.op.now in
    let old = a.parts.now in
    let new : Parts = record old { births = c.refuse.new.births } in
    let told = c.refuse.ensures.turn in
    let has = c.has_failed.ensures.failed c.if-has_failed.true in
    record {
      said = told.said;
      tells = told.tells;
      ends = told.ends;
      is_so =
          same_whole (mirrors_of a.mirrors.now) old new (pool_of a.pool.now) actor a.proc a.far op a.job.now (whats_of told.said) a.job.now
          (λ s who k others left own of_who far_is shown stands. lost_own s who k op (birth_failed old.births.items a.proc who s has of_who shown.parts.births))
          (with_mirrors (mirrors_of a.mirrors.now) old new actor a.proc a.far op a.job.now (whats_of told.said) a.job.now
          (refused old new actor a.proc a.far op a.job.now (whats_of told.said) has refl refl refl refl refl told.is_so));
    }

pub returns-then-has_failed-clause-mirrors : goal.returns-then-has_failed-clause-mirrors
returns-then-has_failed-clause-mirrors c =
    let a = c.args in
    let op = a.op.now in
    let has = c.has_failed.ensures.failed c.if-has_failed.true in
    same_mirrors a.parts.now (pool_of a.pool.now) a.head.now.actor a.proc a.far op a.job.now (mirrors_of a.mirrors.now) (mirrors_of a.mirrors.now)
    (λ s who k others left own of_who far_is shown stands. lost_own s who k op (birth_failed a.parts.now.births.items a.proc who s has of_who shown.parts.births))
    (refused_mirrors a.parts.now a.head.now.actor a.proc a.far op a.job.now (mirrors_of a.mirrors.now) has)

-- ---- tables grow

pub grow_for-requires : goal.grow_for-requires
grow_for-requires c =
    let a = c.args in
    let any = any_process a.proc in
    let ready = c.requires.ready any.0 (λ has. absurd (cc (c.has_failed.ensures.other has))) any.1 in
    record {
      process = c.requires.process;
      space = c.requires.space;
      child = λ child is. (c.requires.child child is).1;
      taken = ready.actor_taken;
      owned = owned_before a.parts.now (pool_of a.pool.now) (mirrors_of a.mirrors.now) a.head.now.actor a.proc a.far a.op.now a.job.now c.requires.from;
      op = ready.in_range;
    }

-- ---- the page that is taken down

-- a process that there is is there in a list of the same length
still_there : (o : Option ℕ) (n m : ℕ) → m ≡ n → IfSome o (λ p. p < n) → IfSome o (λ p. p < m)
still_there None n m same h = tt
still_there (Some p) n m same h = subst (λ k. p < k) (sym same) h

pub page_down-down-requires : goal.page_down-down-requires
page_down-down-requires c =
    let a = c.args in
    let any = any_process a.proc in
    let ready = c.requires.ready any.0 (λ has. absurd (cc (c.has_failed.ensures.other has))) any.1 in
    record {
      process = c.requires.process;
      space = still_there a.proc (length a.parts.now.spaces.items) (length c.grow_for.new.parts.spaces.items) c.grow_for.ensures.many c.requires.space;
      numbered =
          each_numbered a.parts.now.spaces.items c.grow_for.new.parts.spaces.items c.grow_for.ensures.grown c.grow_for.ensures.many
          (tidy_numbered (frames_of a.parts.now.frames) a.parts.now.spaces.items ready.tidy);
      op = ready.in_range;
      far = ready.far;
    }

-- ---- the operation's own turn

pub take_own-over-requires : goal.take_own-over-requires
take_own-over-requires c =
    let a = c.args in
    let old = a.parts.now in
    let new = c.grow_for.new.parts in
    let rest = c.grow_for.ensures.rest in
    record {
      process = c.requires.process;
      birth = still_there a.proc (length old.births.items) (length new.births.items) (ap (λ (x : Parts). length x.births.items) rest) c.requires.birth;
      space = still_there a.proc (length old.spaces.items) (length new.spaces.items) c.grow_for.ensures.many c.requires.space;
      child = λ child is. subst (λ (x : Parts). child < length x.births.items) (sym rest) (c.requires.child child is).0;
      unfailed = λ has. absurd (cc (c.has_failed.ensures.other (subst (λ (x : Parts). HasFailed x.births.items a.proc) rest has)));
      ready = λ p is.
          ready_grown old new a.head.now.actor p a.op.now a.far a.job.now rest c.grow_for.ensures.many c.grow_for.ensures.grown c.grow_for.ensures.walks
          (c.requires.ready p (λ has. absurd (cc (c.has_failed.ensures.other has))) is);
      there = λ m filled is. subst (λ (x : Parts). IsFrame (frames_of x.frames) filled.frame) (sym rest) (c.requires.there m filled is);
      room = c.requires.room;
    }

-- ---- tables go

-- the page's process is the operation's
down_there : (down : Option KeptSpot) (proc : Option ℕ) (n : ℕ) → IfSome down (λ at. proc ≡ Some at.proc) → IfSome proc (λ p. p < n) → IfSome down (λ at. at.proc < n)
down_there None proc n of within = tt
down_there (Some at) proc n of within = subst (λ (o : Option ℕ). IfSome o (λ p. p < n)) of within

-- the child is the operation's
child_there : (place : Place) (op : Op) (n : ℕ) → ((child : ℕ) → op ≡ Fork child → child < n) → IfSome (child_at place op) (λ c. c < n)
child_there unbegun op n there = tt
child_there place (Fork child) n there = there child refl
child_there place op n there = tt

pub shrink_for-requires : goal.shrink_for-requires
shrink_for-requires c =
    let a = c.args in
    let old = a.parts.now in
    let grown = c.grow_for.new.parts in
    let own = c.take_own-over.new.parts in
    let grew = c.grow_for.ensures in
    let took = c.take_own-over.ensures in
    let actor = a.head.now.actor in
    let op = a.op.now in
    let spaces : length own.spaces.items ≡ length old.spaces.items = took.spaces ∙ grew.many in
    let births : length own.births.items ≡ length old.births.items = took.births ∙ ap (λ (x : Parts). length x.births.items) grew.rest in
    let space = still_there a.proc (length old.spaces.items) (length own.spaces.items) spaces c.requires.space in
    record {
      down = down_there c.page_down-down.result a.proc (length own.spaces.items) c.page_down-down.ensures.of space;
      owned =
          owned_after actor a.proc a.far op a.job.now c.take_own-over.new.job (mirrors_of a.mirrors.now) old grown own (pool_of a.pool.now) (pool_of c.grow_for.new.pool) (whats_of took.turn.said)
          (λ has. absurd (cc (c.has_failed.ensures.other has))) c.requires.birth grew.rest grew.leads took.turn.is_so grew.pool c.requires.from;
      parent = space;
      child =
          subst (λ (o : Option ℕ). IfSome o (λ p. p < length own.spaces.items)) (sym c.child_before-forks.ensures)
          (child_there (place_of a.job.now) op (length own.spaces.items) (λ child is. subst (λ n. child < n) (sym spaces) (c.requires.child child is).1));
      birth =
          subst (λ (o : Option ℕ). IfSome o (λ p. p < length own.births.items)) (sym c.child_before-forks.ensures)
          (child_there (place_of a.job.now) op (length own.births.items) (λ child is. subst (λ n. child < n) (sym births) (c.requires.child child is).0));
    }

-- ---- the whole turn

pub returns-clause-turn : goal.returns-clause-turn
returns-clause-turn c =
    let a = c.args in
    let grew = c.grow_for.ensures in
    let told = c.take_own-over.ensures.turn in
    let shrunk = c.shrink_for.ensures in
    let down = c.page_down-down.result in
    let now = pool_of c.grow_for.new.pool in
    let last = pool_of c.shrink_for.new.pool in
    let own = c.take_own-over.new.parts in
    record {
      said = told.said;
      tells = told.tells;
      ends = told.ends;
      is_so =
          whole a.head.now.actor a.proc a.far a.op.now a.job.now c.take_own-over.new.job (mirrors_of a.mirrors.now) a.parts.now c.grow_for.new.parts own c.shrink_for.new.parts
          (pool_of a.pool.now) now last (whats_of told.said) (λ has. absurd (cc (c.has_failed.ensures.other has))) c.requires.birth grew.rest grew.leads told.is_so
          down c.requires.process c.page_down-down.ensures.spot shrunk.rest
          (subst (λ (forks : Option ℕ). ShrinksFor own c.shrink_for.new.parts now last a.proc down forks) c.child_before-forks.ensures shrunk.leads);
    }

pub returns-clause-mirrors : goal.returns-clause-mirrors
returns-clause-mirrors c =
    let a = c.args in
    let grew = c.grow_for.ensures in
    whole_mirrors a.head.now.actor a.proc a.far a.op.now a.job.now (mirrors_of a.mirrors.now) a.parts.now c.grow_for.new.parts (pool_of a.pool.now) (pool_of c.grow_for.new.pool)
    (λ has. absurd (cc (c.has_failed.ensures.other has))) c.requires.birth grew.rest grew.leads (mirrors_of c.take_own-over.new.mirrors) c.take_own-over.ensures.mirrors

pub returns-clause-slots : goal.returns-clause-slots
returns-clause-slots c b was now was_is now_is =
    c.take_own-over.ensures.slots b was now (ap (λ (x : Parts). slice_get x.stores.items b) c.grow_for.ensures.rest ∙ was_is)
    (sym (ap (λ (x : Parts). slice_get x.stores.items b) c.shrink_for.ensures.rest) ∙ now_is)
