pub mod Changes
pub mod Growth
pub mod Lending
pub mod Made
pub mod Ranges
pub mod State
