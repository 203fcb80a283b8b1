pub mod Constants
pub mod Listed
pub mod Lookups
