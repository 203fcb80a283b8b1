pub mod AcceptedWords
pub mod OptionsCommand
pub mod Ranges
pub mod Settings
