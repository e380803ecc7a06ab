use Rattle.std.proofs.Common.{◌≡◌, ℕ, refl, sym, ap, subst}
use Rattle.gup_script.specs.declared.op.Op.{Op}
use Rattle.gup_script.specs.declared.op.Op.TheVariants.{Mirror, Look}
use Rattle.gup_notify.specs.Mirrors.{mirrors_of}
use Rattle.gup_space.specs.Space.{space_of}
use Rattle.gup_op_base.specs.Said.{whats_of}
use Rattle.gup_op_base.specs.Tidy.{needs_table}
use Rattle.gup_op_waits.specs.Doers.{HasProcess}
use Rattle.gup_op_turns.specs.Goes.{IsNoMirror, IsSingle, TakesOwnMirrors}
use Rattle.gup_op_turns.proofs.Singles.{process_is, any_process}
use Rattle.gup_op_turns.proofs.SlotTurns.{IsFilledBy, filled, filled_mirrors, looked, looked_mirrors, left_mirrors}
use Rattle.gup_op_turns.proofs.Turning.{IsTurnWith, with_mirrors}
use Rattle.gup_op_turns.proofs.slots.take_own.Goals as goal

-- ---- a mirror

pub take_mirror-requires-clause-there : goal.take_mirror-requires-clause-there
take_mirror-requires-clause-there c =
    let ready = c.requires.ready c.unwrap.result (process_is c.args.proc c.unwrap.result c.unwrap.ensures) in
    ready.there (subst HasProcess (sym c.in-Mirror.is) tt)

pub take_mirror-requires-clause-tidy : goal.take_mirror-requires-clause-tidy
take_mirror-requires-clause-tidy c =
    (c.requires.ready c.unwrap.result (process_is c.args.proc c.unwrap.result c.unwrap.ensures)).tidy

pub take_mirror-requires-clause-table : goal.take_mirror-requires-clause-table
take_mirror-requires-clause-table c space here =
    let ready = c.requires.ready c.unwrap.result (process_is c.args.proc c.unwrap.result c.unwrap.ensures) in
    ready.table space here (subst IsSingle (sym c.in-Mirror.is) tt) (ap (λ (op : Op). needs_table (space_of space) op) c.in-Mirror.is)

filled_by : (c : goal.After-take_mirror) → IsFilledBy c.args.parts.now c.take_mirror.new.parts c.args.head.now.actor c.unwrap.result c.in-Mirror.mirror c.in-Mirror.page c.args.mirrors.now c.take_mirror.new.mirrors (whats_of c.take_mirror.ensures.turn.said)
filled_by c =
    let took = c.take_mirror.ensures in
    let ready = c.requires.ready c.unwrap.result (process_is c.args.proc c.unwrap.result c.unwrap.ensures) in
    record {
      there = ready.there (subst HasProcess (sym c.in-Mirror.is) tt);
      many = took.spaces;
      births = took.births;
      handles = took.handles;
      taken = took.taken;
      stores = took.stores;
      unmoved = took.other_spaces;
      turn = took.turn.is_so;
    }

pub returns-in-Mirror-clause-turn : goal.returns-in-Mirror-clause-turn
returns-in-Mirror-clause-turn c =
    let a = c.args in
    let x = c.in-Mirror in
    let t = c.take_mirror in
    let told = t.ensures.turn in
    let actor = a.head.now.actor in
    let turn =
    filled a.parts.now t.new.parts actor a.proc c.unwrap.result x.mirror x.proc x.page a.far a.job.now a.mirrors.now t.new.mirrors (whats_of told.said)
    c.requires.unfailed c.requires.birth c.unwrap.ensures (filled_by c) in
    record {
      said = told.said;
      tells = told.tells;
      ends = told.ends;
      is_so = subst (λ (op : Op). IsTurnWith (mirrors_of a.mirrors.now) a.parts.now t.new.parts actor a.proc a.far op a.job.now (whats_of told.said) a.job.now) (sym x.is) turn;
    }

pub returns-in-Mirror-clause-mirrors : goal.returns-in-Mirror-clause-mirrors
returns-in-Mirror-clause-mirrors c =
    let a = c.args in
    let x = c.in-Mirror in
    let t = c.take_mirror in
    subst (λ (op : Op). TakesOwnMirrors a.parts.now a.head.now.actor a.proc a.far op a.job.now (mirrors_of a.mirrors.now) (mirrors_of t.new.mirrors)) (sym x.is)
    (filled_mirrors a.parts.now t.new.parts a.head.now.actor a.proc c.unwrap.result x.mirror x.proc x.page a.far a.job.now a.mirrors.now t.new.mirrors (whats_of t.ensures.turn.said)
    c.requires.unfailed c.requires.birth c.unwrap.ensures (filled_by c))

-- ---- a look

pub returns-in-Look-clause-turn : goal.returns-in-Look-clause-turn
returns-in-Look-clause-turn c =
    let a = c.args in
    let x = c.in-Look in
    let told = c.look.ensures.turn in
    let actor = a.head.now.actor in
    let turn =
    looked a.parts.now actor a.proc x.mirror x.word a.far a.job.now a.mirrors.now (whats_of told.said)
    c.requires.unfailed c.requires.birth told.is_so in
    record {
      said = told.said;
      tells = told.tells;
      ends = told.ends;
      is_so = subst (λ (op : Op). IsTurnWith (mirrors_of a.mirrors.now) a.parts.now a.parts.now actor a.proc a.far op a.job.now (whats_of told.said) a.job.now) (sym x.is) turn;
    }

pub returns-in-Look-clause-mirrors : goal.returns-in-Look-clause-mirrors
returns-in-Look-clause-mirrors c =
    let a = c.args in
    let x = c.in-Look in
    let told = c.look.ensures.turn in
    subst (λ (op : Op). TakesOwnMirrors a.parts.now a.head.now.actor a.proc a.far op a.job.now (mirrors_of a.mirrors.now) (mirrors_of a.mirrors.now)) (sym x.is)
    (looked_mirrors a.parts.now a.head.now.actor a.proc x.mirror x.word a.far a.job.now a.mirrors.now (whats_of told.said)
    c.requires.unfailed c.requires.birth told.is_so)

-- ---- any other operation

no_mirror : (op : Op) → ((mirror proc page : ℕ) → op ≡ Mirror mirror proc page → ⊥) → ((mirror word : ℕ) → op ≡ Look mirror word → ⊥) → IsNoMirror op
no_mirror (Mirror mirror proc page) mirrors looks = mirrors mirror proc page refl
no_mirror (Look mirror word) mirrors looks = looks mirror word refl
no_mirror op mirrors looks = tt

pub take_at-requires-clause-apart : goal.take_at-requires-clause-apart
take_at-requires-clause-apart c = no_mirror c.args.op.now c.in_default.not-Mirror c.in_default.not-Look

pub empty_slots-requires : goal.empty_slots-requires
empty_slots-requires c =
    let any = any_process c.args.proc in
    let ready = c.requires.ready any.0 any.1 in
    record {
      process = c.requires.process;
      space = c.requires.space;
      child = λ child is. (ready.fork child is).there;
      actor = ready.actor_taken;
      tidy = ready.tidy;
      op = ready.in_range;
      far = ready.far;
    }

pub returns-in_default : goal.returns-in_default
returns-in_default c =
    let a = c.args in
    let t = c.take_at in
    let told = t.ensures.turn in
    record {
      spaces = t.ensures.spaces;
      births = t.ensures.births;
      taken = t.ensures.taken;
      stores = t.ensures.stores;
      slots = t.ensures.slots;
      turn = record {
        said = told.said;
        tells = told.tells;
        ends = told.ends;
        is_so = with_mirrors (mirrors_of a.mirrors.now) a.parts.now t.new.parts a.head.now.actor a.proc a.far a.op.now a.job.now (whats_of told.said) t.new.job told.is_so;
      };
      mirrors =
          left_mirrors a.parts.now a.head.now.actor a.proc a.far a.op.now a.job.now (mirrors_of a.mirrors.now) (mirrors_of c.empty_slots.new.mirrors) c.requires.unfailed c.requires.birth
          (no_mirror a.op.now c.in_default.not-Mirror c.in_default.not-Look) c.empty_slots.ensures;
    }
