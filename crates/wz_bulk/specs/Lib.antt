pub mod Effects
pub mod MemoryEffects
pub mod OneByOne
pub mod Sizes
pub mod TableEffects
