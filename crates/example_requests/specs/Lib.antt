pub mod Service
pub mod Tallies
