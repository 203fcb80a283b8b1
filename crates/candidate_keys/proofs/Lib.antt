pub mod Leasts
pub mod Orders
