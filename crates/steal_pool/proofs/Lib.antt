pub mod Lists
pub mod Pieces
pub mod Wholeness
pub mod Fits
pub mod Told
pub mod Booking
pub mod Gathering
pub mod Calls
