pub mod Obliques
pub mod Keys
pub mod Cuts
pub mod Kept
pub mod Rows
