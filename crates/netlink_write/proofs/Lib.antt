pub mod Fields
pub mod Address
pub mod Route
pub mod Message
