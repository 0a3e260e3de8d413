pub mod Bytes
pub mod Forms
pub mod Names
pub mod NameForms
pub mod Vocabulary
pub mod Lines
pub mod Joins
