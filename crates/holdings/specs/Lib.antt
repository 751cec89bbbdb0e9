pub mod Sums
pub mod Fitting
