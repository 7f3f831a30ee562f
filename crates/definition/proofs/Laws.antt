-- What a reader may want to know of the definitions before trusting them: the theorems that an edit of a definition refutes.
pub mod Allowance
pub mod Counts
pub mod Listing
pub mod Lookup
pub mod Order
pub mod Private
pub mod Refusals
