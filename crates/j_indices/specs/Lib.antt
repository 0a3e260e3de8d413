pub mod Numbers
pub mod Choices
pub mod Counting
pub mod Seen
pub mod Selecting
pub mod Indexing
