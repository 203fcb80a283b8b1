pub mod Hiding
pub mod Shown
pub mod Writing
