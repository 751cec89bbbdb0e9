pub mod StepList
pub mod Steps
pub mod Derivation
