use Rattle.std.proofs.Common.{ℕ, sym, ◌∙◌}
use Rattle.std.specs.Vec.{with_item}
use Rattle.arrayvec.specs.ArrayVec.{ArrayVec}
use Rattle.gup_space.specs.Space.{SpaceParts}
use Rattle.gup_op_base.specs.Said.{whats_of}
use Rattle.gup_op_waits.specs.declared.parts.Parts.{Parts}
use Rattle.gup_op_tables.proofs.Replaced.{was_there, now_there, other_there}
use Rattle.gup_op_turns.proofs.Parting.{four}
use Rattle.gup_op_turns.proofs.Turning.{IsPinTurn}
use Rattle.gup_op_turns.proofs.takes.take_pin.Goals as goal

pub pin-over-requires-clause-tidy : goal.pin-over-requires-clause-tidy
pin-over-requires-clause-tidy c =
    c.requires.tidy c.args.proc c.index_mut.result.now
    (was_there c.args.parts.now.spaces.items c.get.result c.args.proc c.index_mut.result.now c.index_mut.ensures.value c.get.ensures.value c.requires.there)

pub pin-over-requires-clause-ready : goal.pin-over-requires-clause-ready
pin-over-requires-clause-ready c =
    c.requires.ready c.index_mut.result.now c.index_mut-2.result.now
    (was_there c.args.parts.now.spaces.items c.get.result c.args.proc c.index_mut.result.now c.index_mut.ensures.value c.get.ensures.value c.requires.there)
    (was_there c.args.parts.now.taken.items c.get-2.result c.args.head.now.actor c.index_mut-2.result.now c.index_mut-2.ensures.value c.get-2.ensures.value c.requires.actor)

pub pin-over-requires-clause-walks : goal.pin-over-requires-clause-walks
pin-over-requires-clause-walks c =
    c.requires.few_walks c.args.proc c.index_mut.result.now
    (was_there c.args.parts.now.spaces.items c.get.result c.args.proc c.index_mut.result.now c.index_mut.ensures.value c.get.ensures.value c.requires.there)

pub pin-over-requires-clause-counted : goal.pin-over-requires-clause-counted
pin-over-requires-clause-counted c =
    c.requires.counted c.index_mut.result.now
    (was_there c.args.parts.now.spaces.items c.get.result c.args.proc c.index_mut.result.now c.index_mut.ensures.value c.get.ensures.value c.requires.there)

pub pin-over-requires-clause-within : goal.pin-over-requires-clause-within
pin-over-requires-clause-within c =
    c.requires.taken c.index_mut-2.result.now
    (was_there c.args.parts.now.taken.items c.get-2.result c.args.head.now.actor c.index_mut-2.result.now c.index_mut-2.ensures.value c.get-2.ensures.value c.requires.actor)

pub returns-clause-other_spaces : goal.returns-clause-other_spaces
returns-clause-other_spaces c q other =
    other_there c.args.parts.now.spaces.items c.get.result q c.pin-over.new.space (λ same. other (same ∙ c.get.ensures.value))

pub returns-clause-others_taken : goal.returns-clause-others_taken
returns-clause-others_taken c b other =
    other_there c.args.parts.now.taken.items c.get-2.result b c.pin-over.new.taken (λ same. other (same ∙ c.get-2.ensures.value))

pub returns-clause-turn : goal.returns-clause-turn
returns-clause-turn c =
    let a = c.args in
    let actor = a.head.now.actor in
    let told = c.pin-over.ensures in
    let spaces = a.parts.now.spaces in
    let taken = a.parts.now.taken in
    let behind : Parts =
    record {
      frames = c.pin-over.new.frames;
      spaces = with_item spaces c.get.result c.pin-over.new.space;
      births = a.parts.now.births;
      handles = c.pin-over.new.handles;
      taken = with_item taken c.get-2.result c.pin-over.new.taken;
      stores = a.parts.now.stores;
    } in
    record {
      said = told.said;
      tells = told.tells;
      ends = told.ends;
      is_so = λ old new was now was_space is_space was_taken is_taken.
          four
          (λ (x y : SpaceParts) (before after : ArrayVec ℕ). IsPinTurn a.parts.now behind x y before after actor (record { proc = a.proc; handle = a.handle; page = a.page; n = a.n; want = a.want; fast = a.fast }) a.far a.job.now c.pin-over.result.1 (whats_of told.said))
          _ _ _ _ old new was now
          (sym (was_there spaces.items c.get.result a.proc c.index_mut.result.now c.index_mut.ensures.value c.get.ensures.value c.requires.there) ∙ was_space)
          (sym (now_there spaces.items c.get.result a.proc c.pin-over.new.space c.get.ensures.value c.requires.there) ∙ is_space)
          (sym (was_there taken.items c.get-2.result actor c.index_mut-2.result.now c.index_mut-2.ensures.value c.get-2.ensures.value c.requires.actor) ∙ was_taken)
          (sym (now_there taken.items c.get-2.result actor c.pin-over.new.taken c.get-2.ensures.value c.requires.actor) ∙ is_taken)
          told.is_so;
    }
