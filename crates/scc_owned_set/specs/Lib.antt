pub mod Collections
pub mod Equality
pub mod Keys
pub mod Lends
pub mod SetEntries
pub mod SetSteps
pub mod SetWalks
