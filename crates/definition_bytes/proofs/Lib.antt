pub mod AsWords
pub mod Theorem
pub mod Parts
pub mod Recording
pub mod Many
