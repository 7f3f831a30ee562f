pub mod Endian
pub mod Laws
