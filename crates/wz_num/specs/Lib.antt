pub mod Integers
pub mod Floats
pub mod Conversions
pub mod Number
pub mod Answers
pub mod Laws
