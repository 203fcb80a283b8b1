pub mod Producers
