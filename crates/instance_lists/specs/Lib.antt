pub mod Merged
pub mod News
