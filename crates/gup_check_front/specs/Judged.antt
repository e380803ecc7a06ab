-- What is told of a trace.
use Rattle.std.specs.Prelude.{◌≡◌, ℕ, ◌⊎◌, List, Option}
use Rattle.std.specs.Io.KnownBytes.{Appends}
use Rattle.gup_io.specs.Transfers.{AppendsPart}
use Rattle.gup_plain.specs.Note.{NoteValue}
use Rattle.gup_script.specs.Script.{ScriptValue}
use Rattle.gup_spec_check.specs.Verdicts.{IsVerdict, verdict_text}
use Rattle.gup_spec_check.specs.declared.Verdict.{Verdict}
use Rattle.gup_spec_check.specs.declared.Verdict.TheVariants.{Yes, Open, No}
use Rattle.gup_check_front.specs.Reading.{IsReadAs}

-- the statuses that `check` has
abbrev pub IsCheckStatus : ℕ → Type 0
IsCheckStatus status =
    (status ≡ 0) ⊎ (status ≡ 3) ⊎ (status ≡ 5) ⊎ (status ≡ 6) ⊎ (status ≡ 7) ⊎ (status ≡ 8)

-- a trace was judged, and its verdict taken
abbrev pub HasJudged : ℕ → Type 0
HasJudged status = (status ≡ 0) ⊎ (status ≡ 8)

abbrev pub status_for : Verdict → ℕ
status_for Yes = 0
status_for Open = 0
status_for (No n) = 8

-- its verdict is right, has this status, and is what a sink has taken
abbrev pub IsJudgedIn : (status : ℕ) → (taken taken_after : Option (List ℕ)) → ScriptValue → List NoteValue → Type 0
IsJudgedIn status taken taken_after script notes =
    (verdict : Verdict) × IsVerdict script notes verdict × (status ≡ status_for verdict)
    × Appends taken taken_after (verdict_text verdict)

-- a sink has taken a prefix of its verdict's line, and not all of it
abbrev pub IsPartlyJudged : (taken taken_after : Option (List ℕ)) → ScriptValue → List NoteValue → Type 0
IsPartlyJudged taken taken_after script notes =
    (verdict : Verdict) × IsVerdict script notes verdict × AppendsPart taken taken_after (verdict_text verdict)

-- so it is of a trace that was read
abbrev pub IsReadAndJudged : (told : Option (List ℕ)) → (taken taken_after : Option (List ℕ)) → Type 0
IsReadAndJudged told taken taken_after =
    (script : ScriptValue) × (notes : List NoteValue) × IsReadAs told script notes
    × IsPartlyJudged taken taken_after script notes
