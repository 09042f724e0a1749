pub mod arrays
pub mod insertions
pub mod places
pub mod relocations
pub mod removals
pub mod resizes
pub mod walks
