use Rattle.std.proofs.Common.{◌≡◌, true, false, ltb, length, take_all, sym, arith, refl}
use Rattle.std.specs.List.{position_or_len}
use Rattle.std.proofs.lemmas.Bool.{le-ltb, lt-ltb}
use Rattle.gup_read_words.specs.Text.{turn_name, turn_times, is_star}
use Rattle.gup_read_words.proofs.text.turn.Goals as goal

pub returns-in-None-clause-times : goal.returns-in-None-clause-times
unfolding turn_times
returns-in-None-clause-times c =
    let word = c.args.word.now in
    let e : position_or_len is_star word ≡ length word = c.in-None.ensures in
    let past : ltb (position_or_len is_star word) (length word) ≡ false = le-ltb _ _ (omega arith) in
    rw past refl

pub returns-in-None-clause-name : goal.returns-in-None-clause-name
unfolding turn_name
returns-in-None-clause-name c =
    let word = c.args.word.now in
    let e : position_or_len is_star word ≡ length word = c.in-None.ensures in
    sym (take_all (position_or_len is_star word) word (omega arith))

pub returns-in-Some-clause-times : goal.returns-in-Some-clause-times
unfolding turn_times
returns-in-Some-clause-times c =
    let word = c.args.word.now in
    let e = c.in-Some.ensures in
    let within : ltb (position_or_len is_star word) (length word) ≡ true = lt-ltb _ _ e.0 in
    rw (within, ← e.2) c.repeated.ensures.times

pub returns-in-Some-clause-name : goal.returns-in-Some-clause-name
unfolding turn_name
returns-in-Some-clause-name c =
    let word = c.args.word.now in
    let e = c.in-Some.ensures in
    rw (← e.1) c.repeated.ensures.name
