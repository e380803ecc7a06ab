use Rattle.std.proofs.Common.{subst, sym, arith, rules}
use Rattle.std.proofs.lemmas.List.{length-map, map-append}
use Rattle.gup_spec_grammar.specs.Outline.{with_actor}
use Rattle.gup_read_outline.specs.Room.{HasRoomFor}
use Rattle.gup_script.specs.Views.{actor_value}
use Rattle.gup_read_outline.specs.ReaderViews.{outline_value}
use Rattle.gup_read_outline.proofs.Actors.{number_left, actor_added, same_actors}
use Rattle.gup_read_outline.proofs.reader.Reader.add_actor.Goals as goal

pub unwrap-number-requires : goal.unwrap-number-requires
unwrap-number-requires c =
    let st = outline_value c.self.inside in
    let room : HasRoomFor c.args.kind st = subst (HasRoomFor c.args.kind) (sym c.self.view_is) c.requires.room in
    let left = number_left c.args.kind st c.self.invariant room in
    c.new.ensures.some.1 (omega (arith, left, length-map c.self.inside.contents.actors.items actor_value, c.len.ensures))

pub invariant_of-self-2 : goal.invariant_of-self-2
invariant_of-self-2 c =
    let st = outline_value c.self.inside in
    let name = c.args.name.now in
    let room : HasRoomFor c.args.kind st = subst (HasRoomFor c.args.kind) (sym c.self.view_is) c.requires.room in
    same_actors (with_actor name c.args.kind st) _ (search (rules, map-append)) (actor_added name c.args.kind st c.self.invariant room)
