pub mod Texts
pub mod NounWords
pub mod Reading
pub mod Refusals
pub mod Rows
