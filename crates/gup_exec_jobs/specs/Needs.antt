-- What some events leave.
use Rattle.std.specs.Prelude.{ℕ, List, [], ◌∷◌, Option, None}
use Rattle.gup_spec_events.specs.State.{ForkStep, between, counted, lowered, cleared, copying, failing}
use Rattle.gup_plain.specs.State.{Handle, gone}

-- a handle after an unpin, which is gone where no page is left
abbrev pub after_unpin : List ℕ → Handle → Handle
after_unpin left h = elim left [ [] ↦ gone | g ∷ gs ↦ h ]

-- the table lock after the failure of a fork, which lets it go in the middle of a page
abbrev pub table_after : ForkStep → Option ℕ → Option ℕ
table_after step holder =
    elim step [ between ↦ holder | counted page ↦ None | lowered page ↦ None | cleared page ↦ None | copying page word ↦ None | failing ↦ None ]
