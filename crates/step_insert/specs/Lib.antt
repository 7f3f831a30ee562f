pub mod Search
pub mod Find
pub mod Run
pub mod Whole
pub mod Plan
