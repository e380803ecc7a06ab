-- The objects that processes' pages name.
use Rattle.std.specs.Prelude.{ℕ, Option, None, Some}
use Rattle.std.specs.BTreeMap.{BTreeMap, get}
use Rattle.std.specs.Ordering.{nat_cmp}
use Rattle.gup_exec_rows.specs.declared.objects.Objects.{Objects}
use Rattle.gup_exec_rows.specs.Grid.{found}

-- the object, or 0 where there is none
abbrev pub object_of : Option ℕ → ℕ
object_of None = 0
object_of (Some object) = object

-- a map's objects
unfoldable pub numbers : BTreeMap ℕ ℕ → ℕ → ℕ
numbers row page = object_of (get nat_cmp row page)

-- the object of a page of a process
unfoldable pub objects_in : Objects → ℕ → ℕ → ℕ
objects_in objects p page = object_of (found objects.grid p page)
