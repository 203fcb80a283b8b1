pub mod Apart
pub mod Counting
pub mod Going
pub mod Lists
pub mod Making
pub mod Names
pub mod Valid
