-- No sample is longer than the limit on inputs: a number takes ten bytes at most, and a store twenty-five.
use Rattle.std.proofs.Common.{ℕ, zero, suc, ◌+◌, ◌*◌, ◌/◌, ◌%◌, ◌≤◌, List, [], ◌∷◌, Bool, true, false, length, length-append, arith}
use Rattle.std.specs.Prelude.{ℤ, pos, nat_lt, if◌then◌else◌, codes}
use Rattle.wz_io.specs.Reading.{input_limit}
use Rattle.wz_bytes.specs.Shortest.{unsigned_groups, shortest_unsigned, low_group, high_groups, is_one_group, signed_groups, shortest_signed}
use Rattle.wz_gen.specs.Sample.{draw_at, address_of, stored_byte, sample_constant, sample_store, sample_stores, sample_body, sample_section, sample_export, sample_exports, sample_definitions, sample_code, sample_bytes}

short_choice : (test : Bool) (n : ℕ) (one other : List ℕ) → length one ≤ n → length other ≤ n → length (if test then one else other) ≤ n
short_choice true n one other a b = a
short_choice false n one other a b = b

pub unsigned_short : (more n : ℕ) → length (unsigned_groups more n) ≤ more + 1
unfolding unsigned_groups
unsigned_short zero n = omega arith
unsigned_short (suc more) n =
    let rest = unsigned_short more (n / 128) in
    short_choice (nat_lt n 128) (suc more + 1) (n ∷ []) ((n % 128 + 128) ∷ unsigned_groups more (n / 128)) (omega arith) (omega (arith, rest))

pub signed_short : (more : ℕ) (z : ℤ) → length (signed_groups more z) ≤ more + 1
unfolding signed_groups
signed_short zero z = omega arith
signed_short (suc more) z =
    let rest = signed_short more (high_groups z) in
    short_choice (is_one_group z) (suc more + 1) (low_group z ∷ []) ((low_group z + 128) ∷ signed_groups more (high_groups z)) (omega arith) (omega (arith, rest))

pub number_short : (n : ℕ) → length (shortest_unsigned n) ≤ 10
unfolding shortest_unsigned
number_short n = unsigned_short 9 n

constant_short : (n : ℕ) → length (sample_constant n) ≤ 11
unfolding shortest_signed
constant_short n = let rest = signed_short 9 (pos n) in omega (arith, rest)

store_short : (draw : ℕ) → length (sample_store draw) ≤ 25
unfolding sample_store
store_short draw =
    let at = constant_short (address_of draw) in
    let byte = constant_short (stored_byte draw) in
    simp length-append (omega (arith, at, byte))

stores_short : (number i : ℕ) → length (sample_stores number i) ≤ 25 * i
unfolding sample_stores
stores_short number zero = omega arith
stores_short number (suc i) =
    let front = stores_short number i in
    let last = store_short (draw_at number (suc i)) in
    simp length-append (omega (arith, front, last))

body_short : (number : ℕ) → length (sample_body number) ≤ 25 * number + 20
unfolding sample_body
body_short number =
    let stores = stores_short number number in
    let count = constant_short number in
    simp length-append (omega (arith, stores, count))

section_short : (id : ℕ) (contents : List ℕ) → length (sample_section id contents) ≤ 11 + length contents
unfolding sample_section
section_short id contents = let size = number_short (length contents) in simp length-append (omega (arith, size))

export_short : (name : List ℕ) (kind : ℕ) → length (sample_export name kind) ≤ 12 + length name
unfolding sample_export
export_short name kind = let size = number_short (length name) in simp length-append (omega (arith, size))

exports_short : length sample_exports ≤ 100
unfolding sample_exports
exports_short =
    let one = export_short (codes "wizer.initialize") 0x00 in
    let two = export_short (codes "memory") 0x02 in
    let three = export_short (codes "count") 0x03 in
    simp length-append (omega (arith, one, two, three))

definitions_short : length sample_definitions ≤ 100
unfolding sample_definitions
definitions_short =
    let types = section_short 1 (0x01 ∷ 0x60 ∷ 0x00 ∷ 0x00 ∷ []) in
    let functions = section_short 3 (0x01 ∷ 0x00 ∷ []) in
    let memories = section_short 5 (0x01 ∷ 0x01 ∷ 0x10 ∷ 0x10 ∷ []) in
    let globals = section_short 6 (0x01 ∷ 0x7F ∷ 0x01 ∷ 0x41 ∷ 0x00 ∷ 0x0B ∷ []) in
    simp length-append (omega (arith, types, functions, memories, globals))

code_short : (number : ℕ) → length (sample_code number) ≤ 25 * number + 40
unfolding sample_code
code_short number =
    let size = number_short (length (sample_body number)) in
    let body = body_short number in
    simp length-append (omega (arith, size, body))

pub sample_short : (number : ℕ) → number ≤ 1000000 → length (sample_bytes number) ≤ input_limit
unfolding sample_bytes
sample_short number few =
    let definitions = definitions_short in
    let exports = section_short 7 sample_exports in
    let names = exports_short in
    let code = section_short 10 (sample_code number) in
    let body = code_short number in
    simp length-append (omega (arith, definitions, exports, names, code, body))
