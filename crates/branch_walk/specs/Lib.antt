pub mod Along
pub mod Jobs
pub mod OwnParts
pub mod Tallies
pub mod Turning
pub mod Walks
