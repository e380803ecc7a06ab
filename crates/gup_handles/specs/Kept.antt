-- How a handle is kept.
use Rattle.std.specs.Prelude.{ℕ, ◌<◌, Bool, List, length}
use Rattle.gup_handles.specs.Handles.{HandleValue, unmade, held, given, got, gone}
use Rattle.gup_handles.specs.declared.handle.Stage.{Stage}
use Rattle.gup_handles.specs.declared.handle.Stage.TheVariants as stages

abbrev pub handle_of : Stage → List ℕ → Bool → HandleValue
handle_of stages.Unmade frames write = unmade
handle_of (stages.Held by) frames write = held by frames write
handle_of (stages.Given to) frames write = given to frames write
handle_of (stages.Got by frame) frames write = got by frame
handle_of stages.Gone frames write = gone

-- a pin has a page
abbrev pub HasPage : Stage → List ℕ → Type 0
HasPage (stages.Held by) frames = 0 < length frames
HasPage (stages.Given to) frames = 0 < length frames
HasPage stages.Unmade frames = Unit {0}
HasPage (stages.Got by frame) frames = Unit {0}
HasPage stages.Gone frames = Unit {0}
