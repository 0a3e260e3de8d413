pub mod State
pub mod ByRank
pub mod PureCells
pub mod WordForms
pub mod Calls
pub mod Words
pub mod Answered
pub mod Laws
