pub mod Checks
pub mod Entries
pub mod Instances
pub mod Judgements
pub mod Laws
pub mod Marks
pub mod Own
pub mod Verdicts
