pub mod TwoTildesRefused
pub mod Judged
