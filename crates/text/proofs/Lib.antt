pub mod Appends
pub mod Digits
pub mod Signs
pub mod Said
pub mod Lengths
