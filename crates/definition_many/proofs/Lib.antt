pub mod Laws
pub mod Private
pub mod Examples
