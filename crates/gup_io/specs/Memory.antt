-- What contracts see of the source and the sink in memory.
use Rattle.std.specs.Prelude.{ℕ, Bool, List}

-- the bytes left, how many reads there were, the numbers of the reads that fail, how many have failed, and whether the
-- last one did
pub record MemSourceValue : Type 0 where
  pub bytes : List ℕ
  pub calls : ℕ
  pub fails : List ℕ
  pub faults : ℕ
  pub faulted : Bool

-- the bytes taken, how many there is room for in all, how many writes there were, the numbers of the writes that
-- fail, how many have failed, and whether the last one did
pub record MemSinkValue : Type 0 where
  pub bytes : List ℕ
  pub room : ℕ
  pub calls : ℕ
  pub fails : List ℕ
  pub faults : ℕ
  pub faulted : Bool
