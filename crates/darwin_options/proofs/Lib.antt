pub mod Asked
pub mod Found
pub mod Numerals
pub mod Parsed
pub mod Reading
pub mod Taken
pub mod Turns
pub mod ValueForms
