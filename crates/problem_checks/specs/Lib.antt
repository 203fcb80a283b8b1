pub mod PlainTests
pub mod SymbolKinds
pub mod ValidityTests
