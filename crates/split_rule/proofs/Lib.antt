pub mod Choosing
pub mod Rule
