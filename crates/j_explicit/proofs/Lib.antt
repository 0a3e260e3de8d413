pub mod Items
pub mod Placed
pub mod Known
pub mod Texts
pub mod NounWords
