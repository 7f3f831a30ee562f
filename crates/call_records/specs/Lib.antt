pub mod Call
pub mod Laws
pub mod Decoded
