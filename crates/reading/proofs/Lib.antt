pub mod Loops
pub mod Sounds
