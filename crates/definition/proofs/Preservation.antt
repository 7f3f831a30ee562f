-- What every call keeps: the theorems that an edit of a definition refutes.
pub mod Change
pub mod Numbers
pub mod Reading
pub mod Shape
pub mod Step
pub mod Peaks
