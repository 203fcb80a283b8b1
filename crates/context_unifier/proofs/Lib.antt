pub mod Asked
pub mod Followed
pub mod FrozenClauses
pub mod FrozenSolutions
pub mod Produced
pub mod Undisputed
pub mod Unfreezing
