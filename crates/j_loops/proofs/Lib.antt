pub mod Masks
pub mod Filling
