pub mod HiddenText
pub mod StepText
pub mod Told
pub mod Traces
