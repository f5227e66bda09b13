pub mod Beginnings
pub mod Totals
pub mod StepLemmas
