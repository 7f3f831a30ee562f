-- What a reader may want to know of the definitions before trusting them.
pub mod Expire
pub mod Select
