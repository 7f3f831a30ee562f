pub mod Copy
pub mod Room
