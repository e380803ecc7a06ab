use Rattle.std.proofs.Common.{◌≡◌, ◌+◌, ◌<◌, get_or, length, arith, false, refl}
use Rattle.gup_frames.proofs.Keeps.{kept-changed, taken_from, same_frames, read_set}
use Rattle.gup_frames.proofs.frames.Frames.claim.Goals as goal

pub overflow_sub-self : goal.overflow_sub-self
overflow_sub-self c =
    let inside : c.args.place < c.self.inside.movable + c.self.inside.normal = rw (← c.self.view_is) at c.requires.there in
    let was : get_or c.self.inside.counts.items c.args.place 0 ≡ 0 = rw (← c.self.view_is) at c.requires.free in
    let both = taken_from _ _ _ _ _ c.args.place c.self.invariant inside 1 false c.self.inside.words.items (omega arith) was in
    omega (arith, both.0, c.one_if.ensures)

pub overflow_sub-self-2 : goal.overflow_sub-self-2
overflow_sub-self-2 c =
    let inside : c.args.place < c.self.inside.movable + c.self.inside.normal = rw (← c.self.view_is) at c.requires.there in
    let was : get_or c.self.inside.counts.items c.args.place 0 ≡ 0 = rw (← c.self.view_is) at c.requires.free in
    let both = taken_from _ _ _ _ _ c.args.place c.self.invariant inside 1 false c.self.inside.words.items (omega arith) was in
    omega (arith, both.1, c.one_if-2.ensures)

pub invariant_of-self : goal.invariant_of-self
invariant_of-self c =
    let inside : c.args.place < c.self.inside.movable + c.self.inside.normal = rw (← c.self.view_is) at c.requires.there in
    let was : get_or c.self.inside.counts.items c.args.place 0 ≡ 0 = rw (← c.self.view_is) at c.requires.free in
    let both = taken_from _ _ _ _ _ c.args.place c.self.invariant inside 1 false c.self.inside.words.items (omega arith) was in
    kept-changed _ _ _ _ _ c.args.place c.self.invariant inside c.remove.new.self c.self.inside.words.items _ 1 false _ _ (omega arith) c.self.invariant.few_words c.remove.ensures.set c.remove.ensures.room
    (omega (arith, both.0, c.one_if.ensures))
    (omega (arith, both.1, c.one_if-2.ensures))

pub returns-clause-claimed : goal.returns-clause-claimed
returns-clause-claimed c =
    let inside : c.args.place < c.self.inside.movable + c.self.inside.normal = rw (← c.self.view_is) at c.requires.there in
    let counts = c.self.inside.counts.items in
    let marks = c.self.inside.marks.items in
    let few : c.args.place < length counts = omega arith in
    let fewer : c.args.place < length marks = omega arith in
    rw (← c.self.view_is)
    (same_frames c.self.inside.movable c.self.inside.normal _ _ _ _ _ _ (read_set counts c.args.place 1 0 few) (read_set marks c.args.place false false fewer) refl)
