pub mod Frozen
pub mod NextUnifiers
pub mod Production
