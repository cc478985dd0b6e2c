pub mod SameTypeLemmas
pub mod FitsLemmas
