pub mod Added
pub mod Every
