use Rattle.std.proofs.Common.{◌≡◌, ◌+◌, ◌-◌, ◌<◌, ◌≤◌, get_or, length, arith, false}
use Rattle.std.proofs.lemmas.List.{get_or_read}
use Rattle.gup_frames.proofs.Keeps.{kept-changed, freed_to, freed-within, last_gone}
use Rattle.gup_frames.proofs.frames.Frames.put.Goals as goal

pub overflow_add-self : goal.overflow_add-self
overflow_add-self c =
    let place = c.get-at.result in
    let there : c.args.frame < c.self.inside.movable + c.self.inside.normal = rw (← c.self.view_is) at c.requires.there in
    let held : c.args.by ≤ get_or c.self.inside.counts.items c.args.frame 0 = rw (← c.self.view_is) at c.requires.held in
    let some : 0 < get_or c.self.inside.counts.items place 0 = rw c.get-at.ensures.value (omega arith) in
    let both = freed-within _ _ _ _ _ place c.self.invariant (omega arith) some in
    omega (arith, both.0, c.one_if.ensures)

pub overflow_add-self-2 : goal.overflow_add-self-2
overflow_add-self-2 c =
    let place = c.get-at.result in
    let there : c.args.frame < c.self.inside.movable + c.self.inside.normal = rw (← c.self.view_is) at c.requires.there in
    let held : c.args.by ≤ get_or c.self.inside.counts.items c.args.frame 0 = rw (← c.self.view_is) at c.requires.held in
    let some : 0 < get_or c.self.inside.counts.items place 0 = rw c.get-at.ensures.value (omega arith) in
    let both = freed-within _ _ _ _ _ place c.self.invariant (omega arith) some in
    omega (arith, both.1, c.one_if-2.ensures)

pub invariant_of-self-2 : goal.invariant_of-self-2
invariant_of-self-2 c =
    let place = c.get-at.result in
    let there : c.args.frame < c.self.inside.movable + c.self.inside.normal = rw (← c.self.view_is) at c.requires.there in
    let held : c.args.by ≤ get_or c.self.inside.counts.items c.args.frame 0 = rw (← c.self.view_is) at c.requires.held in
    let some : 0 < get_or c.self.inside.counts.items place 0 = rw c.get-at.ensures.value (omega arith) in
    let none : c.index.result.now - c.args.by ≡ 0 = omega arith in
    let inside : place < c.self.inside.movable + c.self.inside.normal = omega arith in
    let both = freed_to _ _ _ _ _ place c.self.invariant inside false c.self.inside.words.items some in
    rw none
    (kept-changed _ _ _ _ _ place c.self.invariant inside c.insert.new.self c.self.inside.words.items _ 0 false _ _ (omega arith) c.self.invariant.few_words c.insert.ensures.set c.insert.ensures.room
    (omega (arith, both.0, c.one_if.ensures))
    (omega (arith, both.1, c.one_if-2.ensures)))

pub returns : goal.returns
returns c =
    let place = c.get-at.result in
    let there : c.args.frame < c.self.inside.movable + c.self.inside.normal = rw (← c.self.view_is) at c.requires.there in
    let held : c.args.by ≤ get_or c.self.inside.counts.items c.args.frame 0 = rw (← c.self.view_is) at c.requires.held in
    let few : place < length c.self.inside.counts.items = omega arith in
    let fewer : place < length c.self.inside.marks.items = omega arith in
    let now : c.index.result.now ≡ get_or c.self.inside.counts.items place 0 = get_or_read c.self.inside.counts.items place c.index.result.now few c.index.ensures 0 in
    let held_here : c.args.by ≤ get_or c.self.inside.counts.items place 0 = rw c.get-at.ensures.value held in
    rw (← c.get-at.ensures.value, ← c.self.view_is)
    (last_gone _ place c.args.by c.index.result.now few fewer now (omega arith))
