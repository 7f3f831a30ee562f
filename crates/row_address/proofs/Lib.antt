pub mod LabelWords
