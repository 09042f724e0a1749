pub mod Grammar
pub mod Hashes
pub mod Scripts
