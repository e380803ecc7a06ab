pub mod Waits
pub mod FirstParts
pub mod ScriptSlots
pub mod Far
