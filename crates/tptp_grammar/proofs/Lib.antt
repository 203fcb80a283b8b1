pub mod Rests
mod Completions
pub mod Runs
pub mod Counts
pub mod Fronts
pub mod Growth
mod Places
mod Causes
pub mod Judgements
pub mod Variables
pub mod Unique
mod Steps
