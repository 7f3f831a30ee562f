pub mod V4
pub mod Words
pub mod Row
pub mod Laws
pub mod Covers
