pub mod Obeyed
pub mod Turns
pub mod Words
