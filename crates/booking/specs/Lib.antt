pub mod Room
pub mod Refusals
pub mod Moves
pub mod Payments
pub mod Settling
