mod Feeds
mod Slices
mod Limiting
pub mod Filing
