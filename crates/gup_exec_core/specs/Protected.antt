-- A page that gets other rights.
use Rattle.std.specs.Prelude.{◌≡◌, ℕ, ◌+◌, ◌<◌, true, Some, IsSome}
use Rattle.gup_base.specs.declared.entry.Entry.{Entry}
use Rattle.gup_base.specs.declared.entry.Rights.{Rights}
use Rattle.gup_base.specs.declared.entry.Rights.TheVariants.{RW}
use Rattle.gup_spec_events.specs.Event.{IsUnmirrored}
use Rattle.gup_spec_events.specs.State.{CoreState}

-- it is mapped, its entry is not writable or may stay so, and no mirror of it is filled
unfoldable pub MayProtect : CoreState → (p page : ℕ) → Rights → Type 0
MayProtect s p page rights =
    IsSome (s.right p page) × ((e : Entry) → s.entry p page ≡ Some e → e.writable ≡ true → rights ≡ RW) × IsUnmirrored s p page

-- n pages that do
abbrev pub CanProtect : CoreState → (p page n : ℕ) → Rights → Type 0
CanProtect s p page n rights =
    ((k : ℕ) → k < n → IsSome (s.right p (page + k)))
    × ((k : ℕ) (e : Entry) → k < n → s.entry p (page + k) ≡ Some e → e.writable ≡ true → rights ≡ RW)
    × ((k : ℕ) → k < n → IsUnmirrored s p (page + k))
