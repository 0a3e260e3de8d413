pub mod Locales
pub mod Names
pub mod Coded
pub mod Kept
pub mod Rows
