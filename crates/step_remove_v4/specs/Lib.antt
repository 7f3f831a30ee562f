pub mod Gone
pub mod One
