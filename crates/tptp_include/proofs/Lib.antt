pub mod Adding
pub mod Naming
pub mod Coming
pub mod Bundling
pub mod Flattening
pub mod Mapping
