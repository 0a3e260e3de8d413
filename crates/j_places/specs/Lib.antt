pub mod ItemPlaces
pub mod AxisPlaces
pub mod PlaceRows
pub mod Axes
