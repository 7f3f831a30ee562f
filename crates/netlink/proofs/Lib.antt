pub mod Exactly
pub mod Order
