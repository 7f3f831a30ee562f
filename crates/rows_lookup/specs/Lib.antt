pub mod Flow
pub mod Best
pub mod Answer
pub mod AddrType
