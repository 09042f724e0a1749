pub mod Replies
pub mod SharedSizes
pub mod Stripes
