pub mod Integers
pub mod Saturated
pub mod Ranges
