pub mod AssertOrder
pub mod AssertedEntries
