pub mod FirstOccurrences
pub mod Joining
pub mod Known
