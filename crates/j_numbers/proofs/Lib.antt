pub mod Places
pub mod Parts
pub mod Lists
pub mod Sizes
pub mod Readings
pub mod Forms
pub mod Printed
