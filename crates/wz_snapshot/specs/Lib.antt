pub mod Recorded
pub mod Scanning
pub mod Laws
