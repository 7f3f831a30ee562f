-- What every call keeps: the words' form, the lists' order, the limits, the room for events; and that what it emits can be read back.
pub mod Fit
pub mod Encode
pub mod Order
pub mod Routes
pub mod Rows
pub mod Keeps
pub mod Addresses
pub mod Removal
pub mod Requests
pub mod Growing
pub mod Shrinking
pub mod Emitted
pub mod Refused
