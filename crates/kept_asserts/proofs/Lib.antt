pub mod Opposed
pub mod Ranked
pub mod Taken
