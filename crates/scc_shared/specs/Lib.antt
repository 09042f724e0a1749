pub mod Copying
pub mod IndexReplies
pub mod Reserves
pub mod Stripes
