pub mod Collected
pub mod Laws
pub mod Least
pub mod Plan
pub mod Ranges
pub mod Scanned
