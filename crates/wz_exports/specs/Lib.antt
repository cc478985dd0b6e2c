pub mod Names
pub mod Functions
pub mod Kept
pub mod Answers
pub mod Listed
pub mod Undeclared
pub mod Laws
