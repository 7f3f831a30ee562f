pub mod Iterations
pub mod Loop
