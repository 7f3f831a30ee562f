pub mod Life
pub mod Laws
