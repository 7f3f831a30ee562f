pub mod Bytes
pub mod Laws
pub mod Parts
pub mod Many
pub mod Recording
