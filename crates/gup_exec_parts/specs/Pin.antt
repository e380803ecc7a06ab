-- How a handle, a page that a pin has taken, and a mirror slot are kept.
use Rattle.std.specs.Prelude.{ℕ, ◌*◌, ◌<◌, Bool, List, length}
use Rattle.gup_plain.specs.State.{Handle, unmade, held, given, gone, objects_of}
use Rattle.gup_plain.specs.Event.{IsHeldBy, words}
use Rattle.gup_exec_parts.specs.declared.pin.Stage.{Stage}
use Rattle.gup_exec_parts.specs.declared.pin.Stage.TheVariants as stages

abbrev pub handle_of : Stage → List ℕ → Bool → Handle
handle_of stages.Unmade objects write = unmade
handle_of (stages.Held by) objects write = held by objects write
handle_of (stages.Given to) objects write = given to objects write
handle_of stages.Gone objects write = gone

-- the actor holds the handle, and it has a word with this index
abbrev pub HasWord : Handle → (a index : ℕ) → Type 0
HasWord h a index = IsHeldBy h a × (index < words * length (objects_of h))
