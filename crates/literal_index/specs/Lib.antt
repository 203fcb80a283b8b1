pub mod Postings
pub mod Index
