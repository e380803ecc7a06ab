-- What the top call may answer.
use Rattle.std.specs.Prelude.{◌≡◌, ℕ, ◌⊎◌, List, codes, Option}
use Rattle.std.specs.Io.KnownBytes.{Appends}
use Rattle.gup_io.specs.Transfers.{AppendsPart}

-- what is written where the words ask nothing
abbrev pub usage : List ℕ
usage = codes "usage: gup picture [--svg] [--frames] [--from TURN] [--to TURN] [--page P.p]\n"

abbrev pub IsStatus : ℕ → Type 0
IsStatus status =
    (status ≡ 0) ⊎ (status ≡ 2) ⊎ (status ≡ 3) ⊎ (status ≡ 5) ⊎ (status ≡ 6) ⊎ (status ≡ 7)

-- a sink has taken a text
abbrev pub IsTaken : (taken taken_after : Option (List ℕ)) → Type 0
IsTaken taken taken_after = (text : List ℕ) × Appends taken taken_after text

-- a sink has taken a prefix of a text, and not all of it
abbrev pub IsPartlyTaken : (taken taken_after : Option (List ℕ)) → Type 0
IsPartlyTaken taken taken_after = (text : List ℕ) × AppendsPart taken taken_after text
