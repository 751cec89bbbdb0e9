pub mod Sums
pub mod Names
