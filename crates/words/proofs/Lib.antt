pub mod Digits
pub mod Pieces
pub mod Sofar
