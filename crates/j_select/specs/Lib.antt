pub mod Catalogue
pub mod Amending
pub mod Putting
pub mod Joining
pub mod Listed
