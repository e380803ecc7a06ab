-- The law of the last write, by what holds of every tidy state.
use Rattle.std.proofs.Common.{◌≡◌, ℕ, ◌<◌, Bool, List, [], ◌∷◌, ◌++◌, sym, ◌∙◌, refl, arith}
use Rattle.std.specs.Prelude.{Some}
use Rattle.gup_plain.specs.declared.event.PlainEvent.{PlainEvent}
use Rattle.gup_plain.specs.State.{PlainState, plain_start}
use Rattle.gup_plain.specs.Event.{happened}
use Rattle.gup_exec_plain.specs.LastWrite.{ArePossible, after, written_by, last_written, Reads, Names, IsByOwner}
use Rattle.gup_exec_plain.proofs.Tidy.{IsTidy, starts_tidy}
use Rattle.gup_exec_plain.proofs.TidyEvents.{tidy_after, possible_parts, after_parts}
use Rattle.gup_exec_plain.proofs.Values.{last_written_is, read_is}
use Rattle.gup_exec_plain.proofs.Owners.{made_grows, named_before, named_long_before, written_is_made, is_by_owner}
use Rattle.gup_exec_plain.proofs.law.last_write.Goals as goal

reads : (is_born : ℕ → Bool) (front : List PlainEvent) (e : PlainEvent) (o w value : ℕ) → ArePossible (plain_start is_born) (front ++ e ∷ []) → Reads (after (plain_start is_born) front) e o w value → value ≡ last_written (plain_start is_born) front o w 0
reads is_born front e o w value possible found =
    let parts = possible_parts (plain_start is_born) front (e ∷ []) possible in
    let read : value ≡ (after (plain_start is_born) front).content o w = read_is (after (plain_start is_born) front) e o w value parts.1.0 found in
    read ∙ sym (last_written_is (plain_start is_born) front (starts_tidy is_born) parts.0 o w 0 refl)

writes : (is_born : ℕ → Bool) (front back : List PlainEvent) (e : PlainEvent) (p page o w value : ℕ) → ArePossible (plain_start is_born) (front ++ e ∷ back) → written_by (after (plain_start is_born) front) e o w ≡ Some value → Names (after (plain_start is_born) (front ++ e ∷ back)) p page o → IsByOwner (after (plain_start is_born) front) p page o e
writes is_born front back e p page o w value possible written names =
    let s : PlainState = after (plain_start is_born) front in
    let parts = possible_parts (plain_start is_born) front (e ∷ back) possible in
    let tidy : IsTidy s = tidy_after (plain_start is_born) front (starts_tidy is_born) parts.0 in
    let made : o < s.made = written_is_made s e o w value tidy parts.1.0 written in
    let grown : o < (happened s e).made = omega (arith, made_grows s e) in
    let in_the_end : Names (after (happened s e) back) p page o = rw (after_parts (plain_start is_born) front (e ∷ back)) at names in
    let behind : Names (happened s e) p page o = named_long_before (happened s e) back p page o parts.1.1 grown in_the_end in
    is_by_owner s e p page o w value tidy parts.1.0 written (named_before s e p page o parts.1.0 made behind)

pub returns : goal.returns
returns c = λ is_born. record { reads = reads is_born; writes = writes is_born }
