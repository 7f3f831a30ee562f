pub mod Numbered
pub mod Laws
pub mod Runs
