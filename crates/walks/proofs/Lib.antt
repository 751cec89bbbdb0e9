pub mod Days
pub mod Hops
pub mod Directed
pub mod Unturned
pub mod Paths
pub mod Meeting
pub mod Walking
pub mod Routing
