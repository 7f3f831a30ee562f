-- The reference over lists without limits, call by call, in the words of the documents that the modules name. In brackets stands
-- the function or constant of interface.rs that a definition speaks of, and after a semicolon Linux's, where interface.rs names it.
pub mod Lookup
pub mod Insert
pub mod Addresses
pub mod Removal
pub mod Routes
pub mod Source
