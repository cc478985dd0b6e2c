-- Sections 5.5.2 and 5.5.16 of the Core Specification: the sections of a module and their order.
use Rattle.std.specs.Prelude.{ℕ, ◌<◌, nat_lt, List, [], ◌∷◌, Option, Some, None, if◌then◌else◌, ◌==◌}

-- an id, and the contents that stand behind it and their size
pub record Section : Type 0 where
  pub id : ℕ
  pub payload : List ℕ

-- The place of a section in the order, from 1 on; data count stands between element and code. Custom sections have none,
-- and neither have ids that name no section.
abbrev pub section_rank : ℕ → ℕ
section_rank id =
    if id == 10 then 11
    else (if id == 11 then 12
    else (if id == 12 then 10
    else (if nat_lt id 10 then id else 0)))

-- those of the sections that aren't custom
abbrev pub ranks_of : List Section → List ℕ
ranks_of [] = []
ranks_of (s ∷ sections) = if s.id == 0 then ranks_of sections else section_rank s.id ∷ ranks_of sections

-- numbers that rise, from above this one on
abbrev pub Rises : ℕ → List ℕ → Type 0
Rises low [] = Unit {0}
Rises low (n ∷ numbers) = (low < n) × Rises n numbers

-- the payload of the first section with this id
abbrev pub payload_of : ℕ → List Section → Option (List ℕ)
payload_of id [] = None
payload_of id (s ∷ sections) = if s.id == id then Some s.payload else payload_of id sections
