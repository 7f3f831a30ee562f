pub mod Steps
pub mod StepLaws
pub mod LabelLaws
pub mod Kept
