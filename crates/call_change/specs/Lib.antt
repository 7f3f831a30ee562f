pub mod Answer
pub mod Count
pub mod Ran
pub mod Laws
pub mod Steps
pub mod Emitted
