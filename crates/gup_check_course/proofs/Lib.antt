mod SameLemmas
mod Finish
mod Speaking
mod Passing
mod Writing
mod Reaching
mod Through
mod PageWritten
mod ForkWritten
mod PinWritten
mod ShapeWritten
mod PageEnds
mod ForkEnds
mod PinEnds
mod ShapeEnds
mod Composed
pub mod StandingOn
