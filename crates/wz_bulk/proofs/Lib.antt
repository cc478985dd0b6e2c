pub mod MemoryLemmas
pub mod OptionLemmas
pub mod RangeLemmas
