-- What a handle is, as it is told.
use Rattle.std.specs.Prelude.{◌≤◌, length}
use Rattle.gup_handles.specs.Handles.{HandleValue, unmade, held, given, got, gone}
use Rattle.gup_handles.specs.declared.handle.HandleState.{HandleState}
use Rattle.gup_handles.specs.declared.handle.HandleState.TheVariants.{Unmade, Held, Given, Got, Gone}

abbrev pub state_of : HandleState → HandleValue
state_of Unmade = unmade
state_of (Held by frames write) = held by frames.now write
state_of (Given to frames write) = given to frames.now write
state_of (Got by frame) = got by frame
state_of Gone = gone

-- a pin has 16 pages at most
abbrev pub HasFewFrames : HandleValue → Type 0
HasFewFrames (held by frames write) = length frames ≤ 16
HasFewFrames (given to frames write) = length frames ≤ 16
HasFewFrames unmade = Unit {0}
HasFewFrames (got by frame) = Unit {0}
HasFewFrames gone = Unit {0}
