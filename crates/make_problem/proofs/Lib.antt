pub mod Standing
pub mod Drawing
pub mod Plainness
pub mod Words
pub mod Room
