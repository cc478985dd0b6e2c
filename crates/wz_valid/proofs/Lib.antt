mod CheckLemmas
mod ContextLemmas
mod LawLemmas
mod ListLemmas
mod NameLemmas
mod PartLemmas
mod ProfileLemmas
