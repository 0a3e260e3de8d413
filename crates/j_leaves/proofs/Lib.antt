pub mod Names
mod Inverse
pub mod Listed
