pub mod Report
pub mod Run
pub mod Answer
pub mod Halts
pub mod Top
