pub mod Read
pub mod Moves
pub mod Exported
