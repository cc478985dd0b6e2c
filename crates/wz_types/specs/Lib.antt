pub mod FunctionType
pub mod SameType
pub mod Fits
pub mod Zeros
pub mod Laws
