pub mod Names
pub mod Results
pub mod Tracing
pub mod Walking
