pub mod Behind
pub mod Rows
