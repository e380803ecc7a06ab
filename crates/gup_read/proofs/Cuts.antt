-- A text's lines, one after another.
use Rattle.std.proofs.Common.{◌≡◌, ◌⊎◌, inl, inr, ◌==◌, ℕ, ◌+◌, ◌<◌, ◌≤◌, not, Bool, true, false, cond, ltb, List, [], ◌∷◌, length, take, drop, Result, Ok, Err, Some, None, refl, sym, ap, ◌∙◌, arith}
use Rattle.std.specs.List.{position_or_len}
use Rattle.std.proofs.lemmas.Bool.{not-true, ltb-true, lt-ltb, le-ltb}
use Rattle.std.proofs.lemmas.List.Sums.{prefix_len_passes}
use Rattle.std.proofs.lemmas.List.Splits.{slice_split_none, slice_split_first, length-slice_split}
use Rattle.gup_spec_grammar.specs.Spelling.{parts}
use Rattle.gup_read_words.specs.Text.{is_printable}
use Rattle.gup_spec_grammar.specs.declared.fault.Reason.TheVariants as reasons
use Rattle.gup_spec_grammar.specs.declared.fault.ScriptFault.{ScriptFault}
use Rattle.gup_read.specs.declared.refusal.Trouble.{Trouble}
use Rattle.gup_read.specs.declared.refusal.Trouble.TheVariants as trouble
use Rattle.gup_read.specs.declared.stage.Stage.{Stage as CodeStage}
use Rattle.gup_read.specs.declared.stage.Stage.TheVariants.{BeforeHead, BeforeFrames}
use Rattle.gup_spec_grammar.specs.Outline.{Outline}
use Rattle.gup_spec_grammar.specs.Grammar.{Stage, before_head, before_frames, open_at}
use Rattle.gup_read.specs.Reading.{line_in, fault_at, end_in, behind, lines_in, reading}
use Rattle.gup_read.specs.Steps.{IsTrouble, IsRefusal, refusal_at}
use Rattle.gup_read.specs.StageViews.{stage_value}

abbrev pub is_feed : ℕ → Bool
is_feed b = b == 10

-- what a search for a line feed says
pub position_none : (text : List ℕ) → cond (ltb (position_or_len is_feed text) (length text)) (Some (position_or_len is_feed text)) None ≡ None → position_or_len is_feed text < length text → ⊥
position_none text e within = none_of (ltb (position_or_len is_feed text) (length text)) (position_or_len is_feed text) e (lt-ltb _ _ within) where
  none_of : (b : Bool) (n : ℕ) → cond b (Some n) None ≡ None → b ≡ true → ⊥
  none_of true n e t = absurd cc
  none_of false n e t = absurd cc

pub position_some : (text : List ℕ) (end : ℕ) → cond (ltb (position_or_len is_feed text) (length text)) (Some (position_or_len is_feed text)) None ≡ Some end → (end ≡ position_or_len is_feed text) × (end < length text)
position_some text end e =
    let p = some_of (ltb (position_or_len is_feed text) (length text)) (position_or_len is_feed text) e in
    let within : position_or_len is_feed text < length text = ltb-true _ _ p.1 in
    (p.0, omega (arith, p.0))
  where
    some_of : (b : Bool) (n : ℕ) → cond b (Some n) None ≡ Some end → (end ≡ n) × (b ≡ true)
    some_of true n e = (cc, refl)
    some_of false n e = absurd cc

-- where there is no line feed
pub uncut : (text : List ℕ) → (position_or_len is_feed text < length text → ⊥) → parts 10 text ≡ text ∷ []
uncut text none =
    slice_split_none is_feed text (λ k d within. not-true _ (prefix_len_passes (λ b. not (is_feed b)) text k d (omega (arith, none))))

-- where there is one
pub cut : (text : List ℕ) (end : ℕ) → end ≡ position_or_len is_feed text → end < length text → parts 10 text ≡ take end text ∷ parts 10 (drop (end + 1) text)
cut text end e within =
    let lt : position_or_len is_feed text < length text = omega arith in
    rw e (slice_split_first is_feed text 0 lt)

some_parts : (text : List ℕ) → parts 10 text ≡ [] → ⊥
some_parts text e = absurd (omega (arith, length-slice_split is_feed text, ap length e))

step_on : (number : ℕ) (stage : Stage) (line : List ℕ) (lines : List (List ℕ)) → (lines ≡ [] → ⊥) → lines_in number stage (line ∷ lines) ≡ behind number (line_in stage line) (λ after. lines_in (number + 1) after lines)
step_on number stage line [] some = absurd (some refl)
step_on number stage line (next ∷ lines) some = refl

-- what is found from a line on: what is found after it, or its fault
line_step : (number : ℕ) (stage : Stage) (line rest : List ℕ) → lines_in number stage (line ∷ parts 10 rest) ≡ behind number (line_in stage line) (λ after. lines_in (number + 1) after (parts 10 rest))
line_step number stage line rest = step_on number stage line (parts 10 rest) (some_parts rest)

line_right : (number : ℕ) (stage after : Stage) (line rest : List ℕ) → line_in stage line ≡ Ok after → lines_in number stage (line ∷ parts 10 rest) ≡ lines_in (number + 1) after (parts 10 rest)
line_right number stage after line rest e = line_step number stage line rest ∙ rw e refl

pub line_wrong : (number : ℕ) (stage : Stage) (line rest : List ℕ) (t : Trouble) → IsTrouble (line_in stage line) t → IsRefusal (lines_in number stage (line ∷ parts 10 rest)) (refusal_at number t)
line_wrong number stage line rest (trouble.Fault reason) e = line_step number stage line rest ∙ rw e refl
line_wrong number stage line rest trouble.NoMemory e = tt

-- ---- what stands after the last line feed

abbrev pub refused : ScriptFault → Result Outline ScriptFault
refused fault = Err fault

pub no_end : (number : ℕ) (stage : Stage) (line : List ℕ) → (length line ≡ 0 → ⊥) → end_in number stage line ≡ Err (fault_at number (cond (is_printable line) reasons.End reasons.Byte))
unfolding end_in
no_end number stage [] some = absurd (some refl)
no_end number before_head (c ∷ cs) some = refl
no_end number before_frames (c ∷ cs) some = refl
no_end number (open_at st) (c ∷ cs) some = refl

pub ends : (number : ℕ) (st : Outline) (line : List ℕ) → length line ≡ 0 → end_in number (open_at st) line ≡ Ok st
unfolding end_in
ends number st [] e = refl
ends number st (c ∷ cs) e = absurd (omega arith)

pub frames_missing : (number : ℕ) (stage : CodeStage) (line : List ℕ) → length line ≡ 0 → (stage ≡ BeforeHead) ⊎ (stage ≡ BeforeFrames) → end_in number (stage_value stage) line ≡ Err (fault_at number reasons.Short)
unfolding end_in
frames_missing number stage [] e (inl is) = rw is refl
frames_missing number stage [] e (inr is) = rw is refl
frames_missing number stage (c ∷ cs) e is = absurd (omega arith)

-- ---- the loop over the lines

-- what is found from here on is what is found in the text, and the number is that of a line
pub record AreAhead (text : List ℕ) (number : ℕ) (stage : Stage) (rest : List ℕ) : Type 0 where
  pub same : lines_in number stage (parts 10 rest) ≡ lines_in 1 before_head (parts 10 text)
  pub within : number + length rest ≤ length text + 1

-- one line further
pub one_line : (text : List ℕ) (number : ℕ) (stage after : Stage) (line rest behind : List ℕ) → AreAhead text number stage rest → parts 10 rest ≡ line ∷ parts 10 behind → length rest ≡ length line + 1 + length behind → line_in stage line ≡ Ok after → AreAhead text (number + 1) after behind
one_line text number stage after line rest behind h cut len e =
    record {
      same = sym (line_right number stage after line behind e) ∙ ap (lines_in number stage) (sym cut) ∙ h.same;
      within = omega (arith, h.within);
    }

-- a text that isn't too long is read by its lines
pub read_lines : (text : List ℕ) → length text ≤ 1048576 → reading text ≡ lines_in 1 before_head (parts 10 text)
unfolding reading
read_lines text short = rw (le-ltb 1048576 (length text) short) refl
