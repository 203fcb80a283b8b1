pub mod Cursors
pub mod Enumeration
pub mod Frontiers
pub mod Partners
pub mod Targets
