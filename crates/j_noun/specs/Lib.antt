pub mod Axes
pub mod Held
pub mod Falls
pub mod Viewed
pub mod Refused
pub mod Ranks
pub mod Rows
pub mod Runs
