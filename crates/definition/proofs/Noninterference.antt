-- Two runs side by side: the theorems; what they say stands in specs/Noninterference.antt.
pub mod Addresses
pub mod Calls
pub mod Code
pub mod Computed
pub mod Examples
pub mod ReadBack
pub mod Routes
pub mod Struck
pub mod Tables
pub mod Theorem
pub mod Unwinding
