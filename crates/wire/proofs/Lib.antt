pub mod Parts
pub mod Widths
pub mod Found
pub mod Decoded
