pub mod Lines
pub mod Prices
pub mod Replies
pub mod Weighing
