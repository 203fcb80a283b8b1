pub mod TwoTildes
pub mod Verdicts
