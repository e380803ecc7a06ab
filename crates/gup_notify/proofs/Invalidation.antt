-- Slots while an invalidation goes over them, and what it is to a state.
use Rattle.std.proofs.Common.{◌≡◌, ℕ, Bool, true, false, if◌then◌else◌, Option, None, nat_lt, refl, sym, subst}
use Rattle.gup_plain.specs.State.{Noted}
use Rattle.gup_notify.specs.Mirrors.{Filled, MirrorsValue, is_of, without}
use Rattle.gup_notify.specs.Shows.{IsMirror, ShowsMirrors, invalidated, IsInvalidation}

-- the invalidation has gone over the slots below k
abbrev pub without_below : (k p page n : ℕ) → MirrorsValue → MirrorsValue
without_below k p page n mirrors m = if nat_lt m k then without p page n mirrors m else mirrors m

invalidated_at : (p page n : ℕ) (slot : Option Filled) (frame : Option ℕ) (noted : Option Noted) → IsMirror slot frame noted → IsMirror (if is_of p page n slot then None else slot) (if is_of p page n slot then None else frame) noted
invalidated_at p page n slot frame noted shown = go (is_of p page n slot)
  where
    go : (b : Bool) → IsMirror (if b then None else slot) (if b then None else frame) noted
    go true = refl
    go false = shown

-- slots that are so emptied are those of a state in which they are emptied
pub is_invalidation : (p page n : ℕ) (old new : MirrorsValue) → new ≡ without p page n old → IsInvalidation p page n old new
is_invalidation p page n old new is s shown =
    subst (λ (mirrors : MirrorsValue). ShowsMirrors mirrors (invalidated p page n old s)) (sym is)
    (λ m. invalidated_at p page n (old m) (s.mirrored m) (s.slot m) (shown m))
