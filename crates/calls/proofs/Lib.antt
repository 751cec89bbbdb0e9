pub mod Stored
pub mod Few
pub mod Before
pub mod Admitted
pub mod Entries
pub mod Decided
