pub mod Targets
pub mod Plan
