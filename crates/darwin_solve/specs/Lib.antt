pub mod Deepened
pub mod Evidence
pub mod ValidOnce
