-- A process of which some fields have changed.
use Rattle.std.proofs.Common.{◌≡◌, ℕ, Bool, List, Option, Result, Ok, Err, OnOk, refl}
use Rattle.gup_base.specs.declared.entry.Entry.{Entry}
use Rattle.gup_base.specs.declared.entry.Rights.{Rights}
use Rattle.gup_spec_tables.specs.declared.place.Place.{Place}
use Rattle.gup_space.specs.Space.{SpaceValue}

-- other rights, and another number of mapped pages
pub other_rights : (right wanted : ℕ → Option Rights) (pages many : ℕ) (entry : ℕ → Option Entry) (place : ℕ → Option Place) (retired : List ℕ) (sequence : ℕ) (has_pinned : Bool) (structure table : Option ℕ) (walks : ℕ) → right ≡ wanted → pages ≡ many → ◌≡◌ {A = SpaceValue} (record { right = right; pages = pages; entry = entry; place = place; retired = retired; sequence = sequence; has_pinned = has_pinned; structure = structure; table = table; walks = walks }) (record { right = wanted; pages = many; entry = entry; place = place; retired = retired; sequence = sequence; has_pinned = has_pinned; structure = structure; table = table; walks = walks })
other_rights right wanted pages many entry place retired sequence has_pinned structure table walks same count = rw (same, count) refl

-- two facts of a value that is there
pub on_ok_both : {T E P Q R : Type 0} (r : Result T E) → (P → Q → R) → OnOk r P → OnOk r Q → OnOk r R
on_ok_both (Ok v) both p q = both p q
on_ok_both (Err e) both p q = tt
