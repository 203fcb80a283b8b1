mod Bounds
pub mod Marks
mod Means
mod Places
pub mod Reading
mod Spots
mod Trees
mod Written
