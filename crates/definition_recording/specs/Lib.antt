pub mod Recording
pub mod Statement
