pub mod Cuts
pub mod Extras
pub mod Numbers
pub mod OwnHash
pub mod Parts
pub mod Steps
