pub mod Row
pub mod Tells
pub mod Emits
pub mod EmitsWithin
pub mod Iterations
pub mod Comes
pub mod Through
