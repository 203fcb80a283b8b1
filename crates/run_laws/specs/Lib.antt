pub mod ClosedRun
pub mod PortionInRun
pub mod SmallPortion
pub mod SparedLeaves
pub mod WalksInRun
