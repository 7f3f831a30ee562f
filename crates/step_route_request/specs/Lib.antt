pub mod Ways
pub mod Delete
pub mod Check
pub mod Add
