-- What a memory holds after a write, and what a load gives after a store: the facts that make a list of bytes a memory
-- (WebAssembly Core Specification 2.0, section 4.4.7, where data[at : count] is replaced and read).
use Rattle.std.specs.Prelude.{ℕ, ◌+◌, ◌-◌, ◌%◌, ◌^◌, ◌<◌, ◌≤◌, ◌≡◌, ◌⊎◌, List, ◌++◌, length, replicate, slice_index}
use Rattle.std.specs.List.{All}
use Rattle.wz_linear.specs.Bytes.{IsWithin, number_of, bytes_of, part, written}

-- two ranges have no place in common
abbrev pub AreApart : ℕ → ℕ → ℕ → ℕ → Type 0
AreApart at count from size = (from + size ≤ at) ⊎ (at + count ≤ from)

-- a write leaves the size
abbrev pub WriteKeepsSize : Type 0
WriteKeepsSize = (memory : List ℕ) (at : ℕ) (bytes : List ℕ) → IsWithin memory at (length bytes) → length (written memory at bytes) ≡ length memory

-- a range has as many bytes as it has places
abbrev pub RangeIsFull : Type 0
RangeIsFull = (memory : List ℕ) (at count : ℕ) → IsWithin memory at count → length (part memory at count) ≡ count

-- within the range written, a read gives the bytes written
abbrev pub ReadsWhatWasWritten : Type 0
ReadsWhatWasWritten = (memory : List ℕ) (at : ℕ) (bytes : List ℕ) (skip count : ℕ)
    → IsWithin memory at (length bytes) → skip + count ≤ length bytes → part (written memory at bytes) (at + skip) count ≡ part bytes skip count

-- at the very range written, a read gives all of them
abbrev pub ReadsAllWritten : Type 0
ReadsAllWritten = (memory : List ℕ) (at : ℕ) (bytes : List ℕ) → IsWithin memory at (length bytes) → part (written memory at bytes) at (length bytes) ≡ bytes

-- apart from it, a read gives what stood there
abbrev pub ReadsWhatStoodApart : Type 0
ReadsWhatStoodApart = (memory : List ℕ) (at : ℕ) (bytes : List ℕ) (from count : ℕ)
    → IsWithin memory at (length bytes) → AreApart at (length bytes) from count → part (written memory at bytes) from count ≡ part memory from count

-- the same, place by place
abbrev pub HoldsWhatWasWritten : Type 0
HoldsWhatWasWritten = (memory : List ℕ) (at : ℕ) (bytes : List ℕ) (place : ℕ)
    → IsWithin memory at (length bytes) → at ≤ place → place < at + length bytes → slice_index (written memory at bytes) place ≡ slice_index bytes (place - at)

abbrev pub HoldsWhatStoodApart : Type 0
HoldsWhatStoodApart = (memory : List ℕ) (at : ℕ) (bytes : List ℕ) (place : ℕ)
    → IsWithin memory at (length bytes) → (place < at) ⊎ (at + length bytes ≤ place) → slice_index (written memory at bytes) place ≡ slice_index memory place

-- a write directly behind another makes one write of both
abbrev pub WritesJoin : Type 0
WritesJoin = (memory : List ℕ) (at : ℕ) (first second : List ℕ)
    → IsWithin memory at (length first + length second) → written (written memory at first) (at + length first) second ≡ written memory at (first ++ second)

-- of two writes of one range the second counts
abbrev pub WritesReplace : Type 0
WritesReplace = (memory : List ℕ) (at : ℕ) (first second : List ℕ)
    → IsWithin memory at (length first) → length first ≡ length second → written (written memory at first) at second ≡ written memory at second

-- the order of two writes apart doesn't matter
abbrev pub WritesSwap : Type 0
WritesSwap = (memory : List ℕ) (at : ℕ) (first : List ℕ) (other : ℕ) (second : List ℕ)
    → IsWithin memory at (length first) → IsWithin memory other (length second) → AreApart at (length first) other (length second)
    → written (written memory at first) other second ≡ written (written memory other second) at first

-- to write what stands there changes nothing
abbrev pub WriteOfSame : Type 0
WriteOfSame = (memory : List ℕ) (at count : ℕ) → IsWithin memory at count → written memory at (part memory at count) ≡ memory

-- a number is stored in as many bytes as were asked for, and each is a byte
abbrev pub StoreIsFull : Type 0
StoreIsFull = (width value : ℕ) → (length (bytes_of width value) ≡ width) × All (λ byte. byte < 256) (bytes_of width value)

-- a load after a store at the same place gives the value's lowest bytes
abbrev pub LoadsWhatWasStored : Type 0
LoadsWhatWasStored = (memory : List ℕ) (at width value : ℕ)
    → IsWithin memory at width → number_of (part (written memory at (bytes_of width value)) at width) ≡ value % 256 ^ width

-- a stored number is read back, and bytes that were read as a number are written back
abbrev pub NumberOfBytes : Type 0
NumberOfBytes = (width value : ℕ) → number_of (bytes_of width value) ≡ value % 256 ^ width

abbrev pub BytesOfNumber : Type 0
BytesOfNumber = (bytes : List ℕ) → All (λ byte. byte < 256) bytes → bytes_of (length bytes) (number_of bytes) ≡ bytes

-- growth leaves each range that was within the memory
abbrev pub GrowthKeepsRanges : Type 0
GrowthKeepsRanges = (memory more : List ℕ) (at count : ℕ) → IsWithin memory at count → part (memory ++ more) at count ≡ part memory at count

-- a range of equal bytes, and the number that zeros spell
abbrev pub RangeOfEqualBytes : Type 0
RangeOfEqualBytes = (size byte at count : ℕ) → at + count ≤ size → part (replicate size byte) at count ≡ replicate count byte

abbrev pub NumberOfZeros : Type 0
NumberOfZeros = (count : ℕ) → number_of (replicate count 0) ≡ 0
