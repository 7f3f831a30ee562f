pub mod Flags
pub mod Address
pub mod Route
pub mod Event
pub mod Request
pub mod Bits
pub mod Spelled
