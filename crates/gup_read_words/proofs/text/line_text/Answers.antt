use Rattle.std.proofs.Common.{◌≡◌, ℕ, true, List, Result, Ok, Err, Some, sym, ap, ◌∙◌}
use Rattle.std.specs.Prelude.{MatchResult, IsUtf8}
use Rattle.std.specs.Borrow.{Bor}
use Rattle.std.specs.Option.{option_copied}
use Rattle.std.specs.Result.{result_ok}
use Rattle.gup_read_words.specs.Text.{is_printable}
use Rattle.gup_read_words.proofs.SpelledNames.{printable_found, printable_text}
use Rattle.gup_read_words.proofs.text.line_text.Goals as goal

-- a conversion that refuses only what is no text gives the text
given_text : {E : Type 0} (P : E → Type 0) (line : List ℕ) (r : Result (Bor (List ℕ)) E) → IsUtf8 line → MatchResult r (λ s. (s.now ≡ line) × IsUtf8 line) (λ e. (IsUtf8 line → ⊥) × P e) → option_copied (result_ok r) ≡ Some line
given_text P line (Ok s) text h = ap (λ (t : List ℕ). Some t) h.0
given_text P line (Err e) text h = absurd (h.0 text)

pub returns-then-is_printable : goal.returns-then-is_printable
returns-then-is_printable c =
    let line = c.args.line.now in
    let printable : is_printable line ≡ true = sym c.is_printable.ensures ∙ c.if-is_printable.true in
    let text : IsUtf8 line = printable_text line (printable_found line printable) in
    rw (printable, c.ok.ensures.value) (given_text _ line c.from_utf8.result text c.from_utf8.ensures.cases)
