pub mod States
pub mod Includes
pub mod Printing
pub mod Reached
pub mod Parsing
pub mod Taking
pub mod Exact
