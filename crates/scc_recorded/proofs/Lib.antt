pub mod Adding
pub mod Alike
pub mod Causes
pub mod ComparingLemmas
pub mod Handing
pub mod Placed
pub mod Same
pub mod Seen
