pub mod ListLemmas
pub mod ScanLemmas
pub mod MemoryLemmas
pub mod LawLemmas
