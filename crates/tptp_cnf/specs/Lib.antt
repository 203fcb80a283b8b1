pub mod Meaning
pub mod Files
pub mod Causes
pub mod Plain
pub mod Rows
pub mod Lookup
pub mod Views
