pub mod Cells
pub mod Plans
pub mod Joined
pub mod Assembly
pub mod Collected
pub mod Places
pub mod Rows
pub mod Tables
