pub mod Crossing
pub mod Drained
pub mod Moved
pub mod Places
pub mod Shown
