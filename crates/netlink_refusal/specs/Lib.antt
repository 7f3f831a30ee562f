pub mod Order
pub mod Parts
pub mod ShapeLaws
