pub mod Print
pub mod Wrote
