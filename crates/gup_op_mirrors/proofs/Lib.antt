pub mod FreeFrames
pub mod MappedPages
pub mod StandingPlaces
pub mod EmptiedSlots
