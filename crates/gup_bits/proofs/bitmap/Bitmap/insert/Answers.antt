use Rattle.std.proofs.Common.{◌≡◌, ◌<◌, ◌*◌, ◌/◌, length, get_or, arith}
use Rattle.std.proofs.lemmas.List.{get_or_read}
use Rattle.gup_bits.proofs.Bits.{has-insert}
use Rattle.gup_bits.proofs.bitmap.Bitmap.insert.Goals as goal

pub returns-clause-set : goal.returns-clause-set
returns-clause-set c =
    let words = c.self.inside.words.items in
    let word = c.args.k / 64 in
    let room : c.args.k < 64 * length words = rw (← c.self.view_is) at c.requires in
    let inside : word < length words = omega (arith, room) in
    let was : c.index_mut.result.now ≡ get_or words word 0 = get_or_read words word c.index_mut.result.now inside c.index_mut.ensures.value 0 in
    rw (← c.self.view_is, was) (has-insert words c.args.k inside)
