pub mod ValidOnce
