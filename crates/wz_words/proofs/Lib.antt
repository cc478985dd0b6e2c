pub mod DraftLaws
pub mod HalvesLaws
pub mod NumberLaws
pub mod RenamesLaws
pub mod PartsLaws
