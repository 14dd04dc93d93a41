pub mod LeastCells
pub mod Lent
pub mod Promises
pub mod Rosters
pub mod Steps
pub mod Tables
