pub mod Reshaping
pub mod Axes
pub mod Steps
pub mod AxisRows
