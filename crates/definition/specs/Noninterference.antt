-- Two runs side by side (document 01): whatever they ask of their private tables, the rest comes out alike.
pub mod Statement
pub mod Projection
pub mod Public
