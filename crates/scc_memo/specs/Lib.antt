pub mod Making
pub mod Memos
