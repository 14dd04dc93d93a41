pub mod TwoRows
