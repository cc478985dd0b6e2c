-- The sample module: its bytes, section by section, in the grammar of chapter 5 of the WebAssembly Core Specification 2.0
-- (sections 5.5.4 to 5.5.13, instructions of 5.4.5 to 5.4.7). What it stores, and where, is this tool's own rule.
use Rattle.std.specs.Prelude.{ℕ, zero, suc, pos, ◌+◌, ◌*◌, ◌/◌, ◌%◌, ◌^◌, List, [], ◌∷◌, ◌++◌, length, codes}
use Rattle.wz_bytes.specs.Shortest.{shortest_unsigned, shortest_signed}

-- ---- the numbers that the stores are made of: the first is the sample's own, and each other is made of the one before it

-- the number behind another
abbrev pub next_draw : ℕ → ℕ
next_draw draw = (draw * 1103515245 + 12345) % 2 ^ 31

unfoldable pub draw_at : ℕ → ℕ → ℕ
draw_at number zero = number
draw_at number (suc i) = next_draw (draw_at number i)

-- where a store goes, within the 16 pages
abbrev pub address_of : ℕ → ℕ
address_of draw = draw / 256 % 1048576

-- the byte that it stores, which is never 0
abbrev pub stored_byte : ℕ → ℕ
stored_byte draw = 1 + draw % 255

-- ---- the code

-- i32.const of a number without a sign
abbrev pub sample_constant : ℕ → List ℕ
sample_constant n = 0x41 ∷ shortest_signed (pos n)

-- i32.const address, i32.const byte, i32.store8
unfoldable pub sample_store : ℕ → List ℕ
sample_store draw = sample_constant (address_of draw) ++ sample_constant (stored_byte draw) ++ 0x3A ∷ 0x00 ∷ 0x00 ∷ []

-- the first so many stores, one behind the other
unfoldable pub sample_stores : ℕ → ℕ → List ℕ
sample_stores number zero = []
sample_stores number (suc i) = sample_stores number i ++ sample_store (draw_at number (suc i))

-- no locals; the stores; i32.const number, global.set 0; end
unfoldable pub sample_body : ℕ → List ℕ
sample_body number = 0x00 ∷ [] ++ sample_stores number number ++ sample_constant number ++ 0x24 ∷ 0x00 ∷ 0x0B ∷ []

-- ---- the sections

-- an id, the size of the contents, the contents
unfoldable pub sample_section : ℕ → List ℕ → List ℕ
sample_section id contents = id ∷ [] ++ shortest_unsigned (length contents) ++ contents

-- a name, the kind of what it names, and its number
unfoldable pub sample_export : List ℕ → ℕ → List ℕ
sample_export name kind = shortest_unsigned (length name) ++ name ++ kind ∷ 0x00 ∷ []

-- function 0 as `wizer.initialize`, memory 0 as `memory`, global 0 as `count`
unfoldable pub sample_exports : List ℕ
sample_exports = 0x03 ∷ [] ++ sample_export (codes "wizer.initialize") 0x00 ++ sample_export (codes "memory") 0x02 ++ sample_export (codes "count") 0x03

-- magic and version; section 5.5.16
abbrev pub sample_header : List ℕ
sample_header = 0x00 ∷ 0x61 ∷ 0x73 ∷ 0x6D ∷ 0x01 ∷ 0x00 ∷ 0x00 ∷ 0x00 ∷ []

-- one type [] to []; one function of it; one memory of 16 pages, at most 16; one mutable global of type i32, 0 at first
unfoldable pub sample_definitions : List ℕ
sample_definitions =
    sample_section 1 (0x01 ∷ 0x60 ∷ 0x00 ∷ 0x00 ∷ [])
    ++ sample_section 3 (0x01 ∷ 0x00 ∷ [])
    ++ sample_section 5 (0x01 ∷ 0x01 ∷ 0x10 ∷ 0x10 ∷ [])
    ++ sample_section 6 (0x01 ∷ 0x7F ∷ 0x01 ∷ 0x41 ∷ 0x00 ∷ 0x0B ∷ [])

-- one entry, with its size
unfoldable pub sample_code : ℕ → List ℕ
sample_code number = 0x01 ∷ [] ++ shortest_unsigned (length (sample_body number)) ++ sample_body number

-- the whole module
unfoldable pub sample_bytes : ℕ → List ℕ
sample_bytes number = sample_header ++ sample_definitions ++ sample_section 7 sample_exports ++ sample_section 10 (sample_code number)
