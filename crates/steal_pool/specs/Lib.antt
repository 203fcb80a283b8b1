pub mod Crew
pub mod Explored
pub mod Ledger
pub mod Tasks
