pub mod Dependents
pub mod Delete
pub mod Sweep
