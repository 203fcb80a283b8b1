pub mod ClosedRun
pub mod Members
pub mod PortionInRun
pub mod Regions
pub mod SmallPortion
pub mod Spared
pub mod WalksInRun
