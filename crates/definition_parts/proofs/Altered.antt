-- Whether a step changes the state, from what it emits and from counts: no copy of the state is needed (document 02, Paper 6).
pub mod Says
pub mod Up
pub mod Removal
pub mod Routes
pub mod Addresses
