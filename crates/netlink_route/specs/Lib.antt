pub mod MetricSteps
pub mod MetricWords
pub mod PairLaws
pub mod MetricLaws
pub mod Steps
pub mod Words
pub mod LaidLaws
pub mod RouteLaws
