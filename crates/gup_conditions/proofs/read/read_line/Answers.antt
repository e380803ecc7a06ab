use Rattle.std.proofs.Common.{◌≡◌, cond, Some, None, List, ℕ, sym, subst}
use Rattle.gup_read_words.specs.Text.{is_printable}
use Rattle.gup_read_words.proofs.SpelledNames.{printable_read}
use Rattle.gup_conditions.specs.Condition.{ConditionValue}
use Rattle.gup_conditions.specs.Reading.{IsCondition, Means}
use Rattle.gup_conditions.proofs.Pieces.{is_condition}
use Rattle.gup_conditions.proofs.read.read_line.Goals as goal

pub unreachable-requires : goal.unreachable-requires
unreachable-requires c =
    let line = c.args.line.now in
    let is : None ≡ cond (is_printable line) (Some line) None = c.in_default.ensures in
    let no : None ≡ Some line = rw (printable_read line c.requires) at is in
    absurd (cc)

pub returns-clause-read : goal.returns-clause-read
returns-clause-read c =
    let line = c.args.line.now in
    let is : Some c.in-Some.line.now ≡ cond (is_printable line) (Some line) None = c.in-Some.ensures in
    let some : Some c.in-Some.line.now ≡ Some line = rw (printable_read line c.requires) at is in
    let same : c.in-Some.line.now ≡ line = cc in
    let means : Means line c.in-Some-often_of.often c.in-Some-often_of.wanted.now = subst (λ (text : List ℕ). Means text c.in-Some-often_of.often c.in-Some-often_of.wanted.now) same c.in-Some-often_of.ensures in
    subst (λ (condition : ConditionValue). IsCondition c.args.script.now line condition) (sym c.new.ensures) (is_condition c.args.script.now line c.in-Some-often_of.wanted.now c.in-Some-often_of.often c.in_ok-lines.lines.items means c.in_ok-lines.ensures.read)
