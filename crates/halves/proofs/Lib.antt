pub mod Agreeing
pub mod Days
pub mod Ranges
