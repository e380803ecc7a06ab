-- Entries that are made read-only.
use Rattle.std.specs.Prelude.{◌≡◌, ℕ, false, Option, Some, None}
use Rattle.gup_base.specs.declared.entry.Entry.{Entry}
use Rattle.gup_base.specs.declared.entry.Rights.{Rights}
use Rattle.gup_base.specs.declared.entry.Rights.TheVariants.{R, RW}
use Rattle.gup_plain.specs.Put.{spread}
use Rattle.gup_space.specs.Space.{SpaceValue}

abbrev pub read_only : Option Entry → Option Entry
read_only None = None
read_only (Some e) = Some (record { frame = e.frame; writable = false })

-- the entries of the n pages from this one on are read-only, and the others as they were
abbrev pub lowered : (page n : ℕ) → (ℕ → Option Entry) → ℕ → Option Entry
lowered page n entry = spread page n (λ g. read_only (entry g)) entry

-- the entries of n pages became read-only, and all else is as it was
pub record IsLowered (page n : ℕ) (old new : SpaceValue) : Type 0 where
  pub right : new.right ≡ old.right
  pub pages : new.pages ≡ old.pages
  pub entry : (g : ℕ) → new.entry g ≡ lowered page n old.entry g
  pub sequence : new.sequence ≡ old.sequence
  pub has_pinned : new.has_pinned ≡ old.has_pinned
  pub structure : new.structure ≡ old.structure
  pub table : new.table ≡ old.table
  pub walks : new.walks ≡ old.walks
  pub place : new.place ≡ old.place
  pub retired : new.retired ≡ old.retired

-- so it is for rights that don't allow a write
abbrev pub IsLoweredFor : Rights → (page n : ℕ) → (old new : SpaceValue) → Type 0
IsLoweredFor R page n old new = IsLowered page n old new
IsLoweredFor RW page n old new = new ≡ old
