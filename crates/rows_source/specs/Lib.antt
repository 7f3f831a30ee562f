pub mod Source
pub mod Select
