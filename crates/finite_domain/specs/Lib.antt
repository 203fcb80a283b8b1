pub mod Flat
pub mod Names
