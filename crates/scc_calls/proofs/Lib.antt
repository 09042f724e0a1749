pub mod CacheCalls
mod CacheMaking
mod CacheReplies
mod CacheRoom
mod Copying
pub mod Exact
pub mod Independence
mod IndexCalls
mod Making
mod MapCalls
mod MapCopied
pub mod MapIndependence
pub mod MapRuns
pub mod Merges
mod Readying
pub mod Runs
mod SetCalls
mod States
