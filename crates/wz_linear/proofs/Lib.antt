pub mod BytesLemmas
pub mod NumberLemmas
pub mod WriteLemmas
