pub mod Clones
pub mod Collecting
pub mod Places
mod Room
pub mod Sets
pub mod Walks
