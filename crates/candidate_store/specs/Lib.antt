pub mod Firsts
pub mod Kept
pub mod Notes
pub mod Searches
