pub mod Sides
pub mod Ends
pub mod Walks
pub mod Routes
