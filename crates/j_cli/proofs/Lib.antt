pub mod Known
pub mod Parts
pub mod Words
pub mod Sequence
pub mod FirstLine
pub mod Executing
pub mod Sofar
pub mod Unread
