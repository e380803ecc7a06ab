-- The last line, which draws turns, and the law.
use Rattle.std.proofs.Common.{ℕ, ◌*◌, ◌^◌, ◌<◌, ◌≤◌, List, ◌++◌, length, slice_get, codes, decimal, refl, ap, inl, inr, arith}
use Rattle.std.specs.List.{AllByRecursion, join_with_byte}
use Rattle.std.specs.Fmt.{digits}
use Rattle.std.proofs.lemmas.List.{length-append}
use Rattle.gup_script.specs.declared.op.Kind.TheVariants.{Thread}
use Rattle.gup_script.specs.Script.{ScriptValue}
use Rattle.gup_spec_grammar.specs.Outline.{Outline, with_turns, draws}
use Rattle.gup_spec_grammar.specs.Said.{Word, random_turns, said_words}
use Rattle.gup_spec_grammar.specs.Spelling.{IsNumber}
use Rattle.gup_spec_grammar.specs.Grammar.{open_at, Accepts}
use Rattle.gup_make.specs.Made.{Made, head, rounds, made_text}
use Rattle.gup_law_made.proofs.Texts.{IsPlain, text_more, line_short}
use Rattle.gup_law_made.proofs.Numbers.{decimal_plain}
use Rattle.gup_law_made.proofs.Forks.{some_actors}
use Rattle.gup_law_made.proofs.Good.{IsGood}
use Rattle.gup_law_made.proofs.Rounds.{rounds_good}
use Rattle.gup_law_made.proofs.Ready.{head_good}

-- a good text with a line that draws so many turns is a script's
drawn_accepted : (n k handles start count : ℕ) (number : Word) (text : List ℕ) → IsGood n k handles text → n ≤ 1000 → start < 2 ^ 64 → IsPlain number → IsNumber number count → count ≤ 1000000 → (script : ScriptValue) × Accepts (text ++ (join_with_byte 32 (said_words (random_turns (decimal start) number)) ++ codes "\n")) script
drawn_accepted n k handles start count number text g few lt plain is_number many =
    let st = g.0 in
    let words = said_words (random_turns (decimal start) number) in
    let next : Outline = with_turns (draws count (length st.script.actors) start) st in
    let plain_words : AllByRecursion IsPlain words = (refl, (decimal_plain start lt, (plain, tt))) in
    let actors : 1 ≤ length st.script.actors = some_actors st.script.actors (Thread 0) (ap (λ kinds. slice_get kinds 0) g.1.standing.kinds) in
    let no_turns = g.1.standing.no_turns in
    let right = text_more text (open_at st) (open_at next) words g.1.is_text (plain_words, refl)
    (next, inl (random_turns (decimal start) number, refl, ((start, count, (refl, lt), is_number), inr actors, tt, (count, is_number, omega arith), (start, count, (refl, lt), is_number, refl))), refl) in
    let short = g.1.short in
    let last = join_with_byte 32 words in
    let last_is_short : length last ≤ 31 * length words = line_short words plain_words in
    (next.script, ((right.lines, next, right.cut, right.right, refl), omega (arith, length-append text (last ++ codes "\n"), length-append last (codes "\n"))))

turns : IsNumber (codes "2000") 2000
unfolding digits
turns = (refl, omega arith)

pub made_accepted : (n : ℕ) → n < 2 ^ 64 → (script : ScriptValue) × Accepts (made_text n) script
made_accepted n lt =
    let start : Made = record { text = head; state = n; handles = 0 } in
    let last : Made = rounds 20 start in
    drawn_accepted 340 20 last.handles n 2000 (codes "2000") last.text (rounds_good 20 start (omega arith) head_good) (omega arith) lt refl turns (omega arith)
