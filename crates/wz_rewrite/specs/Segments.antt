-- The split of an element section's payload into its segments (section 5.5.12 of the WebAssembly Core Specification 2.0).
use Rattle.std.specs.Prelude.{ℕ, zero, suc, ◌-◌, List, [], ◌∷◌, length, take, Option, Some, None}
use Rattle.wz_bytes.specs.Unsigned.{unsigned_at}
use Rattle.wz_module.specs.Elements.{Elem}
use Rattle.wz_decode_sections.specs.ElementSection.{elem_at}

-- what stands in front of the rest of bytes
abbrev pub front_before : List ℕ → List ℕ → List ℕ
front_before bytes rest = take (length bytes - length rest) bytes

-- the first segment, and what there is in the rest behind it
abbrev pub segments_with : List ℕ → Option (Elem × List ℕ) → (List ℕ → List (List ℕ)) → List (List ℕ)
segments_with bytes None others = []
segments_with bytes (Some first) others = front_before bytes first.1 ∷ others first.1

-- so many segments, one behind the other
unfoldable pub segments_at : ℕ → List ℕ → List (List ℕ)
segments_at zero bytes = []
segments_at (suc n) bytes = segments_with bytes (elem_at bytes) (λ rest. segments_at n rest)

abbrev pub segments_behind : Option (ℕ × List ℕ) → List (List ℕ)
segments_behind None = []
segments_behind (Some count) = segments_at count.0 count.1

-- the payload's segments: as many as the number in front of them says
abbrev pub segments_of : List ℕ → List (List ℕ)
segments_of payload = segments_behind (unsigned_at 32 payload)
