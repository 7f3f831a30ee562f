pub mod Netmask
pub mod Laws
