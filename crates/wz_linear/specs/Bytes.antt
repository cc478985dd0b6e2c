-- Memories as lists of bytes, and numbers stored in them.
-- WebAssembly Core Specification 2.0: section 4.2.8 (memory instances), section 4.3.1 (`littleendian`, under 'Storage')
-- and section 4.4.7 (memory instructions), whose `data[at : count]` is `part` and whose replacing of it is `written`.
use Rattle.std.specs.Prelude.{ℕ, zero, suc, ◌+◌, ◌*◌, ◌/◌, ◌%◌, ◌≤◌, ◌≡◌, ◌⊎◌, List, [], ◌∷◌, ◌++◌, length, take, drop}

-- the number that these bytes spell, the lowest of them first
unfoldable pub number_of : List ℕ → ℕ
number_of [] = 0
number_of (byte ∷ bytes) = byte + 256 * number_of bytes

-- the lowest bytes of a number, as many as are asked for, the lowest first
unfoldable pub bytes_of : ℕ → ℕ → List ℕ
bytes_of zero number = []
bytes_of (suc count) number = number % 256 ∷ bytes_of count (number / 256)

-- the range of `count` places from `at` on ends within the memory
abbrev pub IsWithin : List ℕ → ℕ → ℕ → Type 0
IsWithin memory at count = at + count ≤ length memory

-- what stands in that range
unfoldable pub part : List ℕ → ℕ → ℕ → List ℕ
part memory at count = take count (drop at memory)

-- the memory with these bytes from `at` on in the place of those that stood there
unfoldable pub written : List ℕ → ℕ → List ℕ → List ℕ
written memory at bytes = take at memory ++ bytes ++ drop (at + length bytes) memory

-- how many bytes a load or a store of an integer takes
abbrev pub IsAccessWidth : ℕ → Type 0
IsAccessWidth width = (width ≡ 1) ⊎ ((width ≡ 2) ⊎ ((width ≡ 4) ⊎ (width ≡ 8)))
