pub mod Cut
pub mod Tally
