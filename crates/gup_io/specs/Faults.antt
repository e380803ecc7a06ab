-- Counts of what failed. A count is a `u64` that stops at its last value.
use Rattle.std.specs.Prelude.{◌≡◌, ℕ, ◌+◌, ◌-◌, ◌^◌, ◌<◌, min, Bool, true}
use Rattle.gup_io.specs.declared.source.ReadToEnd.{ReadToEnd}
use Rattle.gup_io.specs.declared.source.ReadToEnd.TheVariants.{Failed, NoMemory}

-- a count with one more in it, up to the last value of a `u64`
abbrev pub counted : ℕ → ℕ
counted n = min (n + 1) (2 ^ 64 - 1)

-- what failed was counted: the count rose, unless it stood at its last value
abbrev pub HasCause : ℕ → ℕ → Type 0
HasCause old new = old < 2 ^ 64 - 1 → old < new

-- of a row of calls one failed, and it was the last
abbrev pub EndsInFault : (faults faults_after : ℕ) → (faulted_after : Bool) → Type 0
EndsInFault faults faults_after faulted_after = (faults_after ≡ counted faults) × (faulted_after ≡ true)

-- What an error of reading to the end says of the reads: one failed, and it was the last, or none did, and memory ran
-- out.
abbrev pub IsCauseOf : ReadToEnd → (faults faults_after : ℕ) → (faulted_after : Bool) → Type 0
IsCauseOf Failed faults faults_after faulted_after = EndsInFault faults faults_after faulted_after
IsCauseOf NoMemory faults faults_after faulted_after = faults_after ≡ faults
