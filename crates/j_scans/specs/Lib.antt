pub mod Pieced
pub mod Scans
pub mod Spans
pub mod Kept
pub mod Rows
