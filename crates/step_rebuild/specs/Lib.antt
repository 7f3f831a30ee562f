pub mod Holds
pub mod Laws
