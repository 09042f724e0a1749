pub mod CurrentArray
pub mod CurrentEntry
pub mod CurrentSwaps
pub mod Fields
pub mod OldArray
pub mod OldEntry
pub mod OneList
pub mod Shrinks
