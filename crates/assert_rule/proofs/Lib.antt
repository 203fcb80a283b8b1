pub mod Owed
mod Fixed
pub mod Looked
