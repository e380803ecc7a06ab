pub mod Standing
pub mod Down
pub mod Inside
