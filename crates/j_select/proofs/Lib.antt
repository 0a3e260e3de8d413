pub mod Placings
pub mod Reached
pub mod Listings
pub mod ListPlaces
