pub mod Made
pub mod MadeRoom
