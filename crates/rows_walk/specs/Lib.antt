pub mod Keeps
pub mod Longest
pub mod Walked
