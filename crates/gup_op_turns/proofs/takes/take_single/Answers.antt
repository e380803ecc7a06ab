use Rattle.std.proofs.Common.{◌≡◌, ℕ, List, Option, refl, sym, ap, subst, arith}
use Rattle.gup_script.specs.declared.op.Op.{Op}
use Rattle.gup_script.specs.declared.op.Op.TheVariants.{Unpin, Give, Take, Get, Put, Transfer}
use Rattle.gup_script.specs.Valid.{IsOp, made_by}
use Rattle.gup_spec_turns.specs.Turn.{op_turn}
use Rattle.gup_op_base.specs.Far.{HasFar}
use Rattle.gup_op_base.specs.Tidy.{needs_table}
use Rattle.gup_space.specs.Space.{space_of}
use Rattle.gup_op_waits.specs.Doers.{HasProcess}
use Rattle.gup_spec_events.specs.State.{CoreState}
use Rattle.gup_op_pins.specs.Held.{ShowsHeld, held_view, slots_in}
use Rattle.gup_op_base.specs.Said.{whats_of}
use Rattle.gup_op_base.specs.Turns.{Leads}
use Rattle.gup_op_waits.specs.Parts.{ShowsParts}
use Rattle.gup_op_waits.specs.Stands.{StandsAt}
use Rattle.gup_op_turns.proofs.Pinning.{unpin_is_handling, give_is_handling, take_is_handling, put_is_handling, transfer_is_handling, unpin_leaves_stores, give_leaves_stores, take_leaves_stores, put_leaves_stores}
use Rattle.gup_op_tables.proofs.Replaced.{all_kept}
use Rattle.gup_op_waits.proofs.ScriptSlots.{some_is}
use Rattle.gup_op_turns.proofs.Singles.{process_is, any_process, is_alone, alone_process, single_keeps}
use Rattle.gup_op_turns.proofs.Turning.{IsTurnAmong, there, alone, got, handled, leads_part, leads_store}
use Rattle.gup_op_turns.proofs.takes.take_single.Goals as goal

-- ---- a get

pub take_get-requires-clause-there : goal.take_get-requires-clause-there
take_get-requires-clause-there c =
    let ready = (c.requires.ready c.unwrap.result (process_is c.args.proc c.unwrap.result c.unwrap.ensures)).1 in
    ready.there (subst HasProcess (sym c.in-Get.is) tt)

pub take_get-requires-clause-tidy : goal.take_get-requires-clause-tidy
take_get-requires-clause-tidy c = (c.requires.ready c.unwrap.result (process_is c.args.proc c.unwrap.result c.unwrap.ensures)).1.tidy

pub take_get-requires-clause-table : goal.take_get-requires-clause-table
take_get-requires-clause-table c space here =
    let ready = (c.requires.ready c.unwrap.result (process_is c.args.proc c.unwrap.result c.unwrap.ensures)).1 in
    ready.table space here c.requires.single (ap (λ (op : Op). needs_table (space_of space) op) c.in-Get.is)

pub take_get-requires-clause-few : goal.take_get-requires-clause-few
take_get-requires-clause-few c = (c.requires.ready c.unwrap.result (process_is c.args.proc c.unwrap.result c.unwrap.ensures)).1.few_counts

pub take_get-requires-clause-unmade : goal.take_get-requires-clause-unmade
take_get-requires-clause-unmade c =
    let ready = (c.requires.ready c.unwrap.result (process_is c.args.proc c.unwrap.result c.unwrap.ensures)).1 in
    ready.yet c.in-Get.handle (ap made_by c.in-Get.is)

pub returns-in-Get-clause-turn : goal.returns-in-Get-clause-turn
returns-in-Get-clause-turn c =
    let a = c.args in
    let actor = a.head.now.actor in
    let t = c.take_get in
    let told = t.ensures.turn in
    let x = c.in-Get in
    let own = c.unwrap.result in
    let ready_own = (c.requires.ready own (process_is a.proc own c.unwrap.ensures)).1 in
    let within = ready_own.there (subst HasProcess (sym x.is) tt) in
    record {
      said = told.said;
      tells = told.tells;
      ends = told.ends;
      is_so = λ p slots place of_p has.
          let same : own ≡ p = some_is a.proc own p c.unwrap.ensures of_p in
          let turn =
          got a.parts.now t.new.parts actor own slots a.far x.handle x.page place (whats_of told.said)
          within t.ensures.spaces ready_own.actor_taken t.ensures.births t.ensures.taken t.ensures.stores t.ensures.other_spaces told.is_so in
          subst (λ (op : Op). IsTurnAmong a.parts.now t.new.parts actor p slots a.far op place (whats_of told.said) place) (sym x.is)
          (subst (λ (q : ℕ). IsTurnAmong a.parts.now t.new.parts actor q slots a.far (Get x.handle x.page) place (whats_of told.said) place) same turn);
    }

-- ---- operations on a pin or a reference

pub unpin-requires-clause-weighed : goal.unpin-requires-clause-weighed
unpin-requires-clause-weighed c =
    let any = any_process c.args.proc in
    (c.requires.ready any.0 any.1).1.weighed c.in-Unpin.handle

pub returns-in-Unpin-clause-turn : goal.returns-in-Unpin-clause-turn
returns-in-Unpin-clause-turn c =
    let a = c.args in
    let actor = a.head.now.actor in
    let old = a.parts.now in
    let new = record old { frames = c.unpin.new.frames; handles = c.unpin.new.handles } in
    let told = c.unpin.ensures.turn in
    let h = c.in-Unpin.handle in
    record {
      said = told.said;
      tells = told.tells;
      ends = told.ends;
      is_so = λ p slots place of_p has.
          let turn =
          handled old new actor p slots a.far (Unpin h) place (whats_of told.said) tt refl refl refl
          (λ s k. unpin_is_handling s actor h)
          (λ s k shown stands far_is. leads_part old new actor s (op_turn s actor p slots k (Unpin h)) (whats_of told.said) refl (unpin_leaves_stores s actor h) shown (told.is_so s (record { frames = shown.frames; pins = shown.pins; store = tt }) tt)) in
          subst (λ (op : Op). IsTurnAmong old new actor p slots a.far op place (whats_of told.said) place) (sym c.in-Unpin.is) turn;
    }

pub returns-in-Give-clause-turn : goal.returns-in-Give-clause-turn
returns-in-Give-clause-turn c =
    let a = c.args in
    let actor = a.head.now.actor in
    let old = a.parts.now in
    let new = record old { handles = c.give.new.handles } in
    let told = c.give.ensures.turn in
    let h = c.in-Give.handle in
    let to = c.in-Give.to in
    record {
      said = told.said;
      tells = told.tells;
      ends = told.ends;
      is_so = λ p slots place of_p has.
          let turn =
          handled old new actor p slots a.far (Give h to) place (whats_of told.said) tt refl refl refl
          (λ s k. give_is_handling s actor h to)
          (λ s k shown stands far_is. leads_part old new actor s (op_turn s actor p slots k (Give h to)) (whats_of told.said) refl (give_leaves_stores s actor h to) shown (told.is_so old.frames s (record { frames = shown.frames; pins = shown.pins; store = tt }) tt)) in
          subst (λ (op : Op). IsTurnAmong old new actor p slots a.far op place (whats_of told.said) place) (sym c.in-Give.is) turn;
    }

pub take_over-requires-clause-given : goal.take_over-requires-clause-given
take_over-requires-clause-given c =
    let any = any_process c.args.proc in
    (c.requires.ready any.0 any.1).1.given c.in-Take.handle c.in-Take.is

pub returns-in-Take-clause-turn : goal.returns-in-Take-clause-turn
returns-in-Take-clause-turn c =
    let a = c.args in
    let actor = a.head.now.actor in
    let old = a.parts.now in
    let new = record old { handles = c.take_over.new.handles } in
    let told = c.take_over.ensures.turn in
    let h = c.in-Take.handle in
    record {
      said = told.said;
      tells = told.tells;
      ends = told.ends;
      is_so = λ p slots place of_p has.
          let turn =
          handled old new actor p slots a.far (Take h) place (whats_of told.said) tt refl refl refl
          (λ s k. take_is_handling actor h)
          (λ s k shown stands far_is. leads_part old new actor s (op_turn s actor p slots k (Take h)) (whats_of told.said) refl (take_leaves_stores s actor h) shown (told.is_so old.frames s (record { frames = shown.frames; pins = shown.pins; store = tt }) tt)) in
          subst (λ (op : Op). IsTurnAmong old new actor p slots a.far op place (whats_of told.said) place) (sym c.in-Take.is) turn;
    }

pub put-requires-clause-referred : goal.put-requires-clause-referred
put-requires-clause-referred c =
    let any = any_process c.args.proc in
    (c.requires.ready any.0 any.1).1.referred c.in-Put.handle

pub returns-in-Put-clause-turn : goal.returns-in-Put-clause-turn
returns-in-Put-clause-turn c =
    let a = c.args in
    let actor = a.head.now.actor in
    let old = a.parts.now in
    let new = record old { frames = c.put.new.frames; handles = c.put.new.handles } in
    let told = c.put.ensures in
    let h = c.in-Put.handle in
    record {
      said = told.said;
      tells = told.tells;
      ends = told.ends;
      is_so = λ p slots place of_p has.
          let turn =
          handled old new actor p slots a.far (Put h) place (whats_of told.said) tt refl refl refl
          (λ s k. put_is_handling s actor h)
          (λ s k shown stands far_is. leads_part old new actor s (op_turn s actor p slots k (Put h)) (whats_of told.said) refl (put_leaves_stores s actor h) shown (told.is_so s (record { frames = shown.frames; pins = shown.pins; store = tt }) tt)) in
          subst (λ (op : Op). IsTurnAmong old new actor p slots a.far op place (whats_of told.said) place) (sym c.in-Put.is) turn;
    }

-- ---- a transfer

pub take_transfer-requires-clause-actor : goal.take_transfer-requires-clause-actor
take_transfer-requires-clause-actor c =
    let any = any_process c.args.proc in
    (c.requires.ready any.0 any.1).1.actor_store

pub take_transfer-requires-clause-weighed : goal.take_transfer-requires-clause-weighed
take_transfer-requires-clause-weighed c =
    let any = any_process c.args.proc in
    (c.requires.ready any.0 any.1).1.weighed c.in-Transfer.handle

pub take_transfer-requires-clause-within : goal.take_transfer-requires-clause-within
take_transfer-requires-clause-within c =
    let any = any_process c.args.proc in
    subst (λ (op : Op). HasFar op c.args.far) c.in-Transfer.is (c.requires.ready any.0 any.1).1.far

pub take_transfer-requires-clause-most : goal.take_transfer-requires-clause-most
take_transfer-requires-clause-most c =
    let any = any_process c.args.proc in
    (subst (λ (op : Op). IsOp op) c.in-Transfer.is (c.requires.ready any.0 any.1).1.in_range).0.2

pub returns-in-Transfer-clause-turn : goal.returns-in-Transfer-clause-turn
returns-in-Transfer-clause-turn c =
    let a = c.args in
    let actor = a.head.now.actor in
    let old = a.parts.now in
    let t = c.take_transfer in
    let told = t.ensures.turn in
    let new = t.new.parts in
    let x = c.in-Transfer in
    let op : Op = Transfer x.handle x.outward x.slot x.moved in
    record {
      said = told.said;
      tells = told.tells;
      ends = told.ends;
      is_so = λ p slots place of_p has.
          let ready = (c.requires.ready p of_p).1 in
          let was = there old.stores.items actor ready.actor_store in
          let now = there new.stores.items actor (omega (arith, ready.actor_store, t.ensures.stores)) in
          let led = λ (s : CoreState) (k : ℕ) (shown : ShowsParts old s) (stands : StandsAt s actor p k op) (far_is : a.far ≡ k).
          leads_store old new actor s (op_turn s actor p slots k op) (whats_of told.said) now.0 now.1 t.ensures.others
          (transfer_is_handling s actor slots x.handle x.outward x.slot x.moved k) shown
          (subst (λ (n : ℕ). Leads (ShowsHeld actor) (held_view new.frames new.handles now.0) s (op_turn s actor p n k op) (whats_of told.said)) (has was.0 was.1)
          (subst (λ (q : ℕ). Leads (ShowsHeld actor) (held_view new.frames new.handles now.0) s (op_turn s actor p (slots_in was.0) q op) (whats_of told.said)) far_is
          (told.is_so was.0 now.0 was.1 now.1 s (record { frames = shown.frames; pins = shown.pins; store = shown.stores actor was.0 was.1 }) (stands.whole x.handle x.slot x.outward x.moved refl)))) in
          let turn =
          handled old new actor p slots a.far op place (whats_of told.said) tt t.ensures.spaces t.ensures.births t.ensures.taken
          (λ s k. transfer_is_handling s actor slots x.handle x.outward x.slot x.moved k) led in
          subst (λ (o : Op). IsTurnAmong old new actor p slots a.far o place (whats_of told.said) place) (sym x.is) turn;
    }

-- ---- an operation of one process

pub take_alone-requires : goal.take_alone-requires
take_alone-requires c =
    let op = c.args.op.now in
    let alone_so = is_alone op c.requires.single c.requires.apart c.in_default.not-Unpin c.in_default.not-Give c.in_default.not-Take c.in_default.not-Get c.in_default.not-Put c.in_default.not-Transfer in
    let ready = (c.requires.ready c.unwrap-in_default.result (process_is c.args.proc c.unwrap-in_default.result c.unwrap-in_default.ensures)).1 in
    record {
      there = ready.there (alone_process op alone_so);
      tidy = ready.tidy;
      table = λ space here needed. ready.table space here c.requires.single needed;
      op = ready.in_range;
      far = ready.far;
      alone = alone_so;
      room = c.requires.room;
    }

pub returns-in_default : goal.returns-in_default
returns-in_default c =
    let a = c.args in
    let actor = a.head.now.actor in
    let op = a.op.now in
    let old = a.parts.now in
    let t = c.take_alone in
    let told = t.ensures.turn in
    let new = record old { frames = t.new.frames; spaces = t.new.spaces } in
    let alone_so = is_alone op c.requires.single c.requires.apart c.in_default.not-Unpin c.in_default.not-Give c.in_default.not-Take c.in_default.not-Get c.in_default.not-Put c.in_default.not-Transfer in
    let q = c.unwrap-in_default.result in
    let within = (c.requires.ready q (process_is a.proc q c.unwrap-in_default.ensures)).1.there (alone_process op alone_so) in
    record {
      spaces = t.ensures.many;
      births = refl;
      taken = refl;
      stores = refl;
      slots = all_kept (λ (was now : Option (List ℕ)). slots_in now ≡ slots_in was) old.stores.items (λ x. refl);
      turn = record {
        said = told.said;
        tells = told.tells;
        ends = told.ends;
        is_so = λ p slots place of_p has.
            subst (λ (k : ℕ). IsTurnAmong old new actor k slots a.far op place (whats_of told.said) place) (some_is a.proc q p c.unwrap-in_default.ensures of_p)
            (alone old new actor q slots a.far op place (whats_of told.said) alone_so (single_keeps op c.requires.single) within t.ensures.many refl refl refl refl t.ensures.others (λ was now k. told.is_so was now slots k));
      };
    }
