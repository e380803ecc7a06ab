-- Values by number.
use Rattle.std.specs.Prelude.{ℕ, List, Option, None, Some}
use Rattle.gup_exec_parts.specs.Tables.{at_place}

-- what there is, or the blank value
abbrev pub or_blank : {V : Type 0} → V → Option V → V
or_blank blank None = blank
or_blank blank (Some value) = value

-- what stands at a place, if anything does
abbrev pub standing : {V : Type 0} → List (Option V) → ℕ → Option V
standing items = at_place (λ o. o) None items

-- the value of a number, which is the blank one where there is no other
unfoldable pub at : {V : Type 0} → V × List (Option V) → ℕ → V
at row k = or_blank row.0 (standing row.1 k)
