pub mod Laws
pub mod Noninterference
pub mod Preservation
pub mod Events
