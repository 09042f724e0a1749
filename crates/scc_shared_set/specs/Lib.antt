pub mod Answers
pub mod KeyRules
pub mod SetEntries
pub mod Stripes
