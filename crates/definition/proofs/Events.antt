-- No route row goes silently.
pub mod Gone
pub mod Closing
pub mod Theorem
