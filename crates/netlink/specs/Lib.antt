pub mod Codes
pub mod Attributes
pub mod Reader
pub mod Laws
pub mod Exactly
pub mod Cases
pub mod Types
