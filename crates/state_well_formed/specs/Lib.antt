pub mod Look
pub mod Order
pub mod Place
pub mod Twice
