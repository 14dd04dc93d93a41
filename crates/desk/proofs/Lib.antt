pub mod Links
pub mod Mapped
pub mod Texts
pub mod Weights
