use Rattle.std.proofs.Common.{◌≡◌, true, false, ltb, length, arith, refl}
use Rattle.std.specs.List.{position_or_len}
use Rattle.std.proofs.lemmas.Bool.{le-ltb, lt-ltb}
use Rattle.gup_read_words.specs.Text.{address_in, is_dot}
use Rattle.gup_read_words.proofs.text.address.Goals as goal

pub returns-in-None : goal.returns-in-None
unfolding address_in
returns-in-None c =
    let text = c.args.text.now in
    let e : position_or_len is_dot text ≡ length text = c.in-None.ensures in
    let past : ltb (position_or_len is_dot text) (length text) ≡ false = le-ltb _ _ (omega arith) in
    rw past refl

pub returns-in-Some : goal.returns-in-Some
unfolding address_in
returns-in-Some c =
    let text = c.args.text.now in
    let e = c.in-Some.ensures in
    let within : ltb (position_or_len is_dot text) (length text) ≡ true = lt-ltb _ _ e.0 in
    rw (within, ← e.1, ← e.2) c.page_and_word.ensures
