pub mod Reshapes
pub mod Orderly
pub mod Shapes
pub mod Walks
pub mod Orders
pub mod Lasts
pub mod Counting
pub mod ShapeLaw
