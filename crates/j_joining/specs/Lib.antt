pub mod Joining
pub mod Brought
pub mod JoiningRows
pub mod Stitching
