pub mod Fit
pub mod Order
pub mod Route4
