pub mod Obverses
pub mod Modifiers
pub mod Form
pub mod Rows
pub mod Tables
