pub mod Laws
pub mod Altered
pub mod Changed
pub mod Counting
pub mod Run
pub mod Theorem
pub mod Examples
