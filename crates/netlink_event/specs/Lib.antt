pub mod Written
pub mod Writer
pub mod Found
