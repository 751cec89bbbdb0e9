pub mod Bounds
pub mod Listed
pub mod Fitting
pub mod Summed
