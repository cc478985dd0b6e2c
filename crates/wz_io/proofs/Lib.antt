pub mod ToldLemmas
pub mod ReadingLemmas
pub mod WritingLemmas
pub mod MemoryLemmas
pub mod StreamLemmas
