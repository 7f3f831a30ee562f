pub mod Represents
pub mod Change
pub mod InUse
pub mod Held
pub mod Stored
