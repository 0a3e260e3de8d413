pub mod Identities
pub mod Insertion
pub mod Coded
pub mod Bases
pub mod Digits
pub mod Listed
