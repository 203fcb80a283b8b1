pub mod Depths
pub mod Evidences
pub mod KnownAnswers
pub mod WholeAnswers
