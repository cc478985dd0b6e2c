pub mod NameLemmas
pub mod SignatureLemmas
pub mod KeptLemmas
pub mod WholeLemmas
pub mod RisingLemmas
pub mod RefLemmas
pub mod SettingsLemmas
