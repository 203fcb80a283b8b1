pub mod Comparing
pub mod Copying
pub mod Distinct
pub mod Dropping
pub mod Matchers
pub mod Numbered
pub mod Parts
pub mod Waiting
