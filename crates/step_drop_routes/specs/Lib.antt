pub mod One
pub mod Iterations
