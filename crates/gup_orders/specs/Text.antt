-- What is written of a search: how many states and outcomes there are, the lines that all outcomes share, each outcome with an order that
-- comes to it, and a verdict on each condition.
use Rattle.std.specs.Prelude.{ℕ, ◌+◌, Bool, true, false, not, List, [], ◌∷◌, ◌++◌, Option, Some, None, codes, decimal, length, filter, slice_get, zero, suc}
use Rattle.std.specs.List.{flat_map, list_all}
use Rattle.gup_plain.specs.declared.note.Waiting.{Waiting}
use Rattle.gup_script.specs.Script.{ScriptValue}
use Rattle.gup_front.specs.Lines.{stuck_of}
use Rattle.gup_conditions.specs.Line.{LineValue, line_text, has_line}
use Rattle.gup_conditions.specs.Condition.{ConditionValue, wanted_text}
use Rattle.gup_conditions.specs.declared.condition.Often.{Often}
use Rattle.gup_conditions.specs.declared.condition.Often.TheVariants.{Never, Sometimes, Always}
use Rattle.gup_conditions.specs.declared.shown.Shown.{Shown}
use Rattle.gup_conditions.specs.declared.verdict.Verdict.{Verdict}
use Rattle.gup_conditions.specs.declared.verdict.Verdict.TheVariants.{Yes, No, Open}
use Rattle.gup_orders.specs.Found.{Findings, verdicts_on}
use Rattle.gup_orders.specs.Turns.{turns_text}

-- ---- lines that all outcomes share

abbrev pub all_have : List Shown → LineValue → Bool
all_have outcomes line = list_all (λ (shown : Shown). has_line shown.lines.items line) outcomes

abbrev pub shared : List Shown → List LineValue
shared [] = []
shared (first ∷ others) = filter (all_have others) first.lines.items

-- those of an outcome that not all share
abbrev pub own_lines : (common : List LineValue) → Shown → List LineValue
own_lines common shown = filter (λ (line : LineValue). not (has_line common line)) shown.lines.items

-- ---- their texts

abbrev pub with_line_feed : ScriptValue → LineValue → List ℕ
with_line_feed script line = line_text script line ++ codes "\n"

abbrev pub shared_word : (is_open : Bool) → List ℕ
shared_word true = codes "so far "
shared_word false = codes "always "

abbrev pub shared_line : ScriptValue → (is_open : Bool) → LineValue → List ℕ
shared_line script is_open line = shared_word is_open ++ with_line_feed script line

-- the actor that is stuck, where this one is
abbrev pub stuck_at : ScriptValue → (a : ℕ) → Option (Option Waiting) → List ℕ
stuck_at script a None = []
stuck_at script a (Some waiting) = stuck_of script a waiting

-- those of the first n actors that are stuck
abbrev pub stuck_among : ScriptValue → List (Option Waiting) → (n : ℕ) → List ℕ
stuck_among script waits zero = []
stuck_among script waits (suc n) = stuck_among script waits n ++ stuck_at script n (slice_get waits n)

-- an outcome: its number, an order that comes to it, its own lines, and who is stuck
abbrev pub outcome_text : ScriptValue → (common : List LineValue) → (number : ℕ) → Shown → List ℕ
outcome_text script common number shown =
    codes "outcome " ++ (decimal number ++ (codes " " ++ (turns_text script shown.path.items ++ codes "\n")))
    ++ (flat_map (with_line_feed script) (own_lines common shown) ++ stuck_among script shown.waits.items (length script.actors))

abbrev pub outcomes_from : ScriptValue → (common : List LineValue) → (number : ℕ) → List Shown → List ℕ
outcomes_from script common number [] = []
outcomes_from script common number (shown ∷ more) =
    outcome_text script common number shown ++ outcomes_from script common (number + 1) more

-- ---- verdicts

abbrev pub often_word : Often → List ℕ
often_word Never = codes "never"
often_word Sometimes = codes "sometimes"
often_word Always = codes "always"

-- the number of the outcome that shows it
abbrev pub seen_text : Option ℕ → List ℕ
seen_text None = []
seen_text (Some k) = codes ", in " ++ decimal (k + 1)

abbrev pub verdict_text : Verdict → List ℕ
verdict_text (Yes seen) = codes "yes" ++ seen_text seen
verdict_text (No seen) = codes "no" ++ seen_text seen
verdict_text Open = codes "open"

abbrev pub judged_line : ScriptValue → ConditionValue → Verdict → List ℕ
judged_line script condition verdict =
    often_word condition.often ++ (codes ":" ++ (wanted_text script condition.lines ++ (codes ": " ++ (verdict_text verdict ++ codes "\n"))))

abbrev pub judged_lines : ScriptValue → List ConditionValue → List Verdict → List ℕ
judged_lines script [] verdicts = []
judged_lines script (condition ∷ conditions) [] = []
judged_lines script (condition ∷ conditions) (verdict ∷ verdicts) = judged_line script condition verdict ++ judged_lines script conditions verdicts

-- ---- all of it

abbrev pub open_word : (is_open : Bool) → List ℕ
open_word true = codes " open\n"
open_word false = codes "\n"

abbrev pub counts_text : Findings → List ℕ
counts_text found =
    codes "states " ++ (decimal found.states ++ (codes "\noutcomes " ++ (decimal (length found.outcomes) ++ open_word found.is_open)))

abbrev pub found_text : ScriptValue → List ConditionValue → Findings → List ℕ
found_text script conditions found =
    let common : List LineValue = shared found.outcomes in
    counts_text found
    ++ (flat_map (shared_line script found.is_open) common
    ++ (outcomes_from script common 1 found.outcomes
    ++ judged_lines script conditions (verdicts_on found conditions)))
