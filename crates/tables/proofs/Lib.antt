pub mod Chosen
pub mod Counts
pub mod LeastCells
pub mod Lowering
pub mod Orders
pub mod Seats
pub mod Stepping
pub mod Worths
