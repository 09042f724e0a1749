pub mod Added
pub mod Orders
pub mod Queues
pub mod Receipts
pub mod Stamps
pub mod Steps
