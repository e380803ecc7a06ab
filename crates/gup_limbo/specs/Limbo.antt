-- What was taken out and isn't free yet, and how many walks run.
use Rattle.std.specs.Prelude.{◌≡◌, ℕ, ◌<◌, List, [], ◌∷◌, ◌++◌}
use Rattle.gup_limbo.specs.declared.limbo.Reclaim.{Reclaim}
use Rattle.gup_limbo.specs.declared.limbo.Reclaim.TheVariants.{Kept, Empty, Free}

pub record LimboValue (T : Type 0) : Type 0 where
  -- what was retired, the first first, and how much of it there may be
  pub retired : List T
  pub room : ℕ
  pub walks : ℕ

abbrev pub no_limbo : {T : Type 0} → (room : ℕ) → LimboValue T
no_limbo room = record { retired = []; room = room; walks = 0 }

abbrev pub with_retired : {T : Type 0} → T → LimboValue T → LimboValue T
with_retired item limbo = record limbo { retired = limbo.retired ++ item ∷ [] }

-- What reclaiming comes to: while a walk runs nothing is free. Else the first that was retired is, if there is one.
abbrev pub IsReclaimed : {T : Type 0} → (old : LimboValue T) → Reclaim T → (new : LimboValue T) → Type 0
IsReclaimed old (Kept walks) new = (walks ≡ old.walks) × (0 < walks) × (new ≡ old)
IsReclaimed old Empty new = (old.walks ≡ 0) × (old.retired ≡ []) × (new ≡ old)
IsReclaimed old (Free item) new =
    (old.walks ≡ 0) × (old.retired ≡ item ∷ new.retired) × (new ≡ record old { retired = new.retired })
