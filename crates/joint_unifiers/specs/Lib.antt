pub mod ClauseUnifiers
pub mod Contradiction
pub mod Measured
pub mod Places
