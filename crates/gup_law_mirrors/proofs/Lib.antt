pub mod Invalidates
pub mod InvalidatingPins
pub mod InvalidatingTurns
pub mod EmptiedPages
pub mod SlotNotes
pub mod KeptSlots
