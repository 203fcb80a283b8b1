pub mod Walks
pub mod FirstConstant
pub mod FirstOccurrence
pub mod OwnNumbers
pub mod Passes
pub mod ValidityTests
