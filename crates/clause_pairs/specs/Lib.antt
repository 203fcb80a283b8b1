pub mod Filed
pub mod Index
pub mod Lists
pub mod Meetings
pub mod Pairs
pub mod Values
