pub mod CanonicalForm
pub mod ContextLaws
pub mod GrownLaws
pub mod Pairing
pub mod SearchLaws
pub mod TermLaws
pub mod UnifierLaws
pub mod UnifierMeasures
