pub mod Index
pub mod Asked
pub mod Found
