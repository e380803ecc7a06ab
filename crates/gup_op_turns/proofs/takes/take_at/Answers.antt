use Rattle.std.proofs.Common.{ℕ, sym, ap, ◌∙◌, subst}
use Rattle.gup_script.specs.declared.op.Op.{Op}
use Rattle.gup_script.specs.Valid.{IsOp, made_by}
use Rattle.gup_op_base.specs.Said.{whats_of}
use Rattle.gup_op_waits.specs.Doers.{HasProcess}
use Rattle.gup_op_turns.proofs.Refusing.{of_born}
use Rattle.gup_op_waits.proofs.ScriptSlots.{some_is}
use Rattle.gup_op_turns.proofs.Singles.{process_is, single_op}
use Rattle.gup_op_turns.proofs.Turning.{IsTurnAmong, pinned}
use Rattle.gup_op_waits.proofs.Waits.{forks_into}
use Rattle.gup_op_turns.proofs.takes.take_at.Goals as goal

-- ---- a fork

pub take_fork-requires-clause-there : goal.take_fork-requires-clause-there
take_fork-requires-clause-there c =
    let ready = c.requires.ready c.unwrap.result (process_is c.args.proc c.unwrap.result c.unwrap.ensures) in
    ready.there (subst HasProcess (sym (forks_into c.args.op.now c.in-Some.child (sym c.child_of.ensures ∙ c.in-Some.is))) tt)

pub take_fork-requires-clause-tidy : goal.take_fork-requires-clause-tidy
take_fork-requires-clause-tidy c =
    (c.requires.ready c.unwrap.result (process_is c.args.proc c.unwrap.result c.unwrap.ensures)).tidy

pub take_fork-requires-clause-few_counts : goal.take_fork-requires-clause-few_counts
take_fork-requires-clause-few_counts c =
    (c.requires.ready c.unwrap.result (process_is c.args.proc c.unwrap.result c.unwrap.ensures)).few_counts

pub take_fork-requires-clause-fork : goal.take_fork-requires-clause-fork
take_fork-requires-clause-fork c =
    let ready = c.requires.ready c.unwrap.result (process_is c.args.proc c.unwrap.result c.unwrap.ensures) in
    ready.fork c.in-Some.child (forks_into c.args.op.now c.in-Some.child (sym c.child_of.ensures ∙ c.in-Some.is))

pub returns-in-Some-clause-turn : goal.returns-in-Some-clause-turn
returns-in-Some-clause-turn c =
    let a = c.args in
    let actor = a.head.now.actor in
    let t = c.take_fork in
    let told = t.ensures.turn in
    let is = forks_into a.op.now c.in-Some.child (sym c.child_of.ensures ∙ c.in-Some.is) in
    record {
      said = told.said;
      tells = told.tells;
      ends = told.ends;
      is_so =
          of_born a.parts.now t.new.parts actor a.proc a.far a.op.now a.job.now t.new.job (whats_of told.said)
          c.requires.unfailed c.requires.birth
          (λ p slots of_p has.
          subst (λ (q : ℕ). IsTurnAmong a.parts.now t.new.parts actor q slots a.far a.op.now a.job.now (whats_of told.said) t.new.job) (some_is a.proc c.unwrap.result p c.unwrap.ensures of_p)
          (subst (λ (op : Op). IsTurnAmong a.parts.now t.new.parts actor c.unwrap.result slots a.far op a.job.now (whats_of told.said) t.new.job) (sym is) (λ k rest left far_is. told.is_so slots k rest left)));
    }

-- ---- a move

pub move_page-requires-clause-there : goal.move_page-requires-clause-there
move_page-requires-clause-there c =
    let ready = c.requires.ready c.unwrap-in-Move.result (process_is c.args.proc c.unwrap-in-Move.result c.unwrap-in-Move.ensures) in
    ready.there (subst HasProcess (sym c.in-Move.is) tt)

pub move_page-requires-clause-tidy : goal.move_page-requires-clause-tidy
move_page-requires-clause-tidy c =
    (c.requires.ready c.unwrap-in-Move.result (process_is c.args.proc c.unwrap-in-Move.result c.unwrap-in-Move.ensures)).tidy

pub move_page-requires-clause-ready : goal.move_page-requires-clause-ready
move_page-requires-clause-ready c space here =
    let move = c.in-Move in
    let ready = c.requires.ready c.unwrap-in-Move.result (process_is c.args.proc c.unwrap-in-Move.result c.unwrap-in-Move.ensures) in
    ready.move move.proc move.page move.zone space move.is here

pub returns-in-Move-clause-turn : goal.returns-in-Move-clause-turn
returns-in-Move-clause-turn c =
    let a = c.args in
    let actor = a.head.now.actor in
    let t = c.move_page in
    let told = t.ensures.turn in
    let move = c.in-Move in
    let of = c.unwrap-in-Move.result in
    record {
      said = told.said;
      tells = told.tells;
      ends = told.ends;
      is_so =
          of_born a.parts.now t.new.parts actor a.proc a.far a.op.now a.job.now t.new.job (whats_of told.said)
          c.requires.unfailed c.requires.birth
          (λ p slots of_p has.
          subst (λ (q : ℕ). IsTurnAmong a.parts.now t.new.parts actor q slots a.far a.op.now a.job.now (whats_of told.said) t.new.job) (some_is a.proc of p c.unwrap-in-Move.ensures of_p)
          (subst (λ (op : Op). IsTurnAmong a.parts.now t.new.parts actor of slots a.far op a.job.now (whats_of told.said) t.new.job) (sym move.is) (λ k rest left far_is. told.is_so move.proc slots k rest left)));
    }

-- ---- a pin

pub take_pin-requires-clause-there : goal.take_pin-requires-clause-there
take_pin-requires-clause-there c =
    let pin = c.in-Pin in
    let ready = c.requires.ready c.unwrap-proc.result (process_is c.args.proc c.unwrap-proc.result c.unwrap-proc.ensures) in
    ready.there (subst HasProcess (sym pin.is) tt)

pub take_pin-requires-clause-actor : goal.take_pin-requires-clause-actor
take_pin-requires-clause-actor c =
    let pin = c.in-Pin in
    let ready = c.requires.ready c.unwrap-proc.result (process_is c.args.proc c.unwrap-proc.result c.unwrap-proc.ensures) in
    ready.actor_taken

pub take_pin-requires-clause-tidy : goal.take_pin-requires-clause-tidy
take_pin-requires-clause-tidy c =
    let pin = c.in-Pin in
    let ready = c.requires.ready c.unwrap-proc.result (process_is c.args.proc c.unwrap-proc.result c.unwrap-proc.ensures) in
    ready.tidy

pub take_pin-requires-clause-ready : goal.take_pin-requires-clause-ready
take_pin-requires-clause-ready c space pages here taken =
    let pin = c.in-Pin in
    let ready = c.requires.ready c.unwrap-proc.result (process_is c.args.proc c.unwrap-proc.result c.unwrap-proc.ensures) in
    ready.pin space pages pin.handle pin.page pin.n pin.want pin.fast pin.is here taken

pub take_pin-requires-clause-few_walks : goal.take_pin-requires-clause-few_walks
take_pin-requires-clause-few_walks c =
    let pin = c.in-Pin in
    let ready = c.requires.ready c.unwrap-proc.result (process_is c.args.proc c.unwrap-proc.result c.unwrap-proc.ensures) in
    ready.few_walks

pub take_pin-requires-clause-counted : goal.take_pin-requires-clause-counted
take_pin-requires-clause-counted c space here =
    let pin = c.in-Pin in
    let ready = c.requires.ready c.unwrap-proc.result (process_is c.args.proc c.unwrap-proc.result c.unwrap-proc.ensures) in
    ready.walk space pin.handle pin.page pin.n pin.want pin.fast pin.is here

pub take_pin-requires-clause-few : goal.take_pin-requires-clause-few
take_pin-requires-clause-few c =
    let pin = c.in-Pin in
    let ready = c.requires.ready c.unwrap-proc.result (process_is c.args.proc c.unwrap-proc.result c.unwrap-proc.ensures) in
    ready.few_counts

pub take_pin-requires-clause-unmade : goal.take_pin-requires-clause-unmade
take_pin-requires-clause-unmade c =
    let pin = c.in-Pin in
    let ready = c.requires.ready c.unwrap-proc.result (process_is c.args.proc c.unwrap-proc.result c.unwrap-proc.ensures) in
    ready.yet pin.handle (ap made_by pin.is)

pub take_pin-requires-clause-taken : goal.take_pin-requires-clause-taken
take_pin-requires-clause-taken c pages here =
    let pin = c.in-Pin in
    let ready = c.requires.ready c.unwrap-proc.result (process_is c.args.proc c.unwrap-proc.result c.unwrap-proc.ensures) in
    ready.taken pages pin.handle pin.page pin.n pin.want pin.fast here pin.is

pub take_pin-requires-clause-some : goal.take_pin-requires-clause-some
take_pin-requires-clause-some c =
    let pin = c.in-Pin in
    let ready = c.requires.ready c.unwrap-proc.result (process_is c.args.proc c.unwrap-proc.result c.unwrap-proc.ensures) in
    (subst (λ (op : Op). IsOp op) pin.is ready.in_range).0

pub take_pin-requires-clause-most : goal.take_pin-requires-clause-most
take_pin-requires-clause-most c =
    let pin = c.in-Pin in
    let ready = c.requires.ready c.unwrap-proc.result (process_is c.args.proc c.unwrap-proc.result c.unwrap-proc.ensures) in
    (subst (λ (op : Op). IsOp op) pin.is ready.in_range).1

pub take_pin-requires-clause-range : goal.take_pin-requires-clause-range
take_pin-requires-clause-range c =
    let pin = c.in-Pin in
    let ready = c.requires.ready c.unwrap-proc.result (process_is c.args.proc c.unwrap-proc.result c.unwrap-proc.ensures) in
    (subst (λ (op : Op). IsOp op) pin.is ready.in_range).2

pub returns-in-Pin-clause-turn : goal.returns-in-Pin-clause-turn
returns-in-Pin-clause-turn c =
    let a = c.args in
    let actor = a.head.now.actor in
    let t = c.take_pin in
    let told = t.ensures.turn in
    let pin = c.in-Pin in
    let of = c.unwrap-proc.result in
    let ready = c.requires.ready c.unwrap-proc.result (process_is c.args.proc c.unwrap-proc.result c.unwrap-proc.ensures) in
    record {
      said = told.said;
      tells = told.tells;
      ends = told.ends;
      is_so =
          of_born a.parts.now t.new.parts actor a.proc a.far a.op.now a.job.now t.new.job (whats_of told.said)
          c.requires.unfailed c.requires.birth
          (λ p slots of_p has.
          subst (λ (q : ℕ). IsTurnAmong a.parts.now t.new.parts actor q slots a.far a.op.now a.job.now (whats_of told.said) t.new.job) (some_is a.proc of p c.unwrap-proc.ensures of_p)
          (subst (λ (op : Op). IsTurnAmong a.parts.now t.new.parts actor of slots a.far op a.job.now (whats_of told.said) t.new.job) (sym pin.is)
          (pinned a.parts.now t.new.parts actor of slots a.far pin.handle pin.page pin.n pin.want pin.fast a.job.now t.new.job (whats_of told.said)
          (ready.there (subst HasProcess (sym pin.is) tt)) t.ensures.spaces ready.actor_taken t.ensures.taken t.ensures.births t.ensures.stores t.ensures.other_spaces t.ensures.others_taken told.is_so)));
    }

-- ---- another operation

pub take_single-requires-clause-single : goal.take_single-requires-clause-single
take_single-requires-clause-single c = single_op c.args.op.now (sym c.child_of.ensures ∙ c.in_default.is) c.in_default-op.not-Move c.in_default-op-2.not-Pin

pub take_single-requires-clause-ready : goal.take_single-requires-clause-ready
take_single-requires-clause-ready c p of_p = (c.args.job.now, c.requires.ready p of_p)

pub returns-clause-turn : goal.returns-clause-turn
returns-clause-turn c =
    let a = c.args in
    let told = c.take_single.ensures.turn in
    record {
      said = told.said;
      tells = told.tells;
      ends = told.ends;
      is_so =
          of_born a.parts.now c.take_single.new.parts a.head.now.actor a.proc a.far a.op.now a.job.now a.job.now (whats_of told.said)
          c.requires.unfailed c.requires.birth (λ p slots of_p has. told.is_so p slots a.job.now of_p has);
    }
