pub mod ClauseText
pub mod LabelText
