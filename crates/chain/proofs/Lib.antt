pub mod StepList
pub mod Climbing
pub mod Days
pub mod Putting
pub mod Linking
pub mod Deriving
