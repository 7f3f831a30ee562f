pub mod Laws
pub mod Events
pub mod Steps
pub mod Theorem
pub mod Tables
pub mod Counts
pub mod Examples
