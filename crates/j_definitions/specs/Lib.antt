pub mod Array
pub mod Stored
pub mod Faults
pub mod Items
pub mod Limits
pub mod Cells
pub mod Bytes
pub mod Range
