pub mod Mask
pub mod Laws
