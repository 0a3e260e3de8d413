pub mod Alike
pub mod Rising
pub mod Linked
pub mod Diagonals
pub mod Marks
pub mod Lists
pub mod Texts
