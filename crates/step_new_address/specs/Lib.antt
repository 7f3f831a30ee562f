pub mod Adding
pub mod Install
pub mod New
pub mod Change
