pub mod Parts
pub mod Seats
pub mod Sizes
pub mod Stripes
pub mod Walks
