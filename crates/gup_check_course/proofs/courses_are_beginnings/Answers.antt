-- The operations of a script have their numbers in range, and what is said of them is composed of what is said of each.
use Rattle.std.proofs.Common.{◌≡◌, ℕ, List, All, Option, None, Some, slice_get, refl, subst}
use Rattle.std.proofs.lemmas.List.Elements.{recursion_from_All}
use Rattle.std.proofs.lemmas.Option.{slice_get_within, get_or_from_slice_get}
use Rattle.std.specs.List.{AllByRecursion}
use Rattle.gup_script.specs.Script.{ScriptValue, Actor, actor_at, ops_in, ops_of}
use Rattle.gup_script.specs.Valid.{IsScript, IsOp}
use Rattle.gup_check_course.proofs.Composed.{begins_if, stands_if}
use Rattle.gup_check_course.proofs.courses_are_beginnings.Goals as goal

all_at : {X : Type 0} (P : X → Type 0) (xs : List X) (k : ℕ) (x : X) → All P xs → slice_get xs k ≡ Some x → P x
all_at P xs k x all is = subst P (get_or_from_slice_get xs k x x is) (all k x (slice_get_within xs k x is))

in_range : (script : ScriptValue) → IsScript script → (a : ℕ) (actor : Option Actor) → actor_at script a ≡ actor → AllByRecursion IsOp (ops_in actor)
in_range script valid a None is = tt
in_range script valid a (Some actor) is = recursion_from_All IsOp actor.ops (all_at (λ (x : Actor). All IsOp x.ops) script.actors a actor valid.ops is)

pub returns : goal.returns
returns c script a said valid =
    let ops : AllByRecursion IsOp (ops_of script a) = in_range script valid a (actor_at script a) refl in
    (begins_if script a said ops, stands_if script a said ops)
