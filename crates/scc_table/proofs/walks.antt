pub mod Comparisons
pub mod Lists
pub mod Reach
pub mod Spots
pub mod Steps
pub mod TakeSteps
pub mod Takes
pub mod Visits
