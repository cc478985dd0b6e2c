-- Forms made of forms, as the productions of section 5.1 of the Core Specification are, and the readings of them.
use Rattle.std.specs.Prelude.{◌≡◌, ℕ, zero, suc, ◌<◌, List, [], ◌∷◌, ◌++◌, length, take, drop, Option, Some, None, Bool, nat_lt, ◌==◌, if◌then◌else◌, All}
use Rattle.std.specs.List.{list_all}
use Rattle.wz_bytes.specs.Reading.{◌>>=◌, Form, Reading}
use Rattle.wz_bytes.specs.Unsigned.{IsUnsigned, unsigned_at}

-- Section 5.2.1: a byte is a number below 256
abbrev pub AreBytes : List ℕ → Type 0
AreBytes bytes = All (λ b. b < 256) bytes

abbrev pub are_bytes : List ℕ → Bool
are_bytes bytes = list_all (λ b. nat_lt b 256) bytes

-- one byte, as itself
abbrev pub IsByte : Form ℕ
IsByte text b = (text ≡ b ∷ []) × (b < 256)

abbrev pub byte_at : Reading ℕ
byte_at [] = None
byte_at (b ∷ bytes) = if nat_lt b 256 then Some (b, bytes) else None

-- so many bytes, as themselves
abbrev pub IsPiece : ℕ → Form (List ℕ)
IsPiece n text piece = (text ≡ piece) × (length piece ≡ n) × AreBytes piece

abbrev pub piece_at : ℕ → Reading (List ℕ)
piece_at n bytes = if nat_lt (length bytes) n then None else (if are_bytes (take n bytes) then Some (take n bytes, drop n bytes) else None)

-- one form behind another
abbrev pub Both : {X Y : Type 0} → Form X → Form Y → Form (X × Y)
Both IsFirst IsSecond text z = (first second : List ℕ) × (text ≡ first ++ second) × IsFirst first z.0 × IsSecond second z.1

abbrev pub both_at : {X Y : Type 0} → Reading X → Reading Y → Reading (X × Y)
both_at first second bytes = first bytes >>= λ x. second x.1 >>= λ y. Some ((x.0, y.0), y.1)

-- a byte that says which form it is, and the form behind it
abbrev pub Tagged : {X : Type 0} → ℕ → Form X → Form X
Tagged tag Spells text x = (rest : List ℕ) × (text ≡ tag ∷ rest) × Spells rest x

abbrev pub tagged_at : {X : Type 0} → ℕ → Reading X → Reading X
tagged_at tag read [] = None
tagged_at tag read (b ∷ bytes) = if b == tag then read bytes else None

-- what a number or byte in front says that it is, behind it: a row for each tag
abbrev pub switch_at : {X : Type 0} → Reading ℕ → (ℕ → Reading X) → Reading X
switch_at tag rows bytes = tag bytes >>= λ t. rows t.0 t.1

-- a value that is made of another
abbrev pub Made : {X Y : Type 0} → (X → Y) → Form X → Form Y
Made {X = X} f Spells text y = (x : X) × Spells text x × (y ≡ f x)

abbrev pub made_at : {X Y : Type 0} → (X → Y) → Reading X → Reading Y
made_at f read bytes = read bytes >>= λ x. Some (f x.0, x.1)

-- Section 5.1.3, vectors: a count, and so many items one behind the other
abbrev pub AreItems : {X : Type 0} → Form X → Form (List X)
AreItems Spells text [] = text ≡ []
AreItems Spells text (x ∷ xs) = (first others : List ℕ) × (text ≡ first ++ others) × Spells first x × AreItems Spells others xs

abbrev pub IsVector : {X : Type 0} → Form X → Form (List X)
IsVector Spells text xs = (count items : List ℕ) × (text ≡ count ++ items) × IsUnsigned 32 count (length xs) × AreItems Spells items xs

unfoldable pub items_at : {X : Type 0} → Reading X → ℕ → Reading (List X)
items_at read zero bytes = Some ([], bytes)
items_at read (suc n) bytes = read bytes >>= λ x. items_at read n x.1 >>= λ xs. Some (x.0 ∷ xs.0, xs.1)

unfoldable pub vector_at : {X : Type 0} → Reading X → Reading (List X)
vector_at read bytes = unsigned_at 32 bytes >>= λ n. items_at read n.0 n.1

-- a vector of bytes, as the bytes themselves
abbrev pub IsBytes : Form (List ℕ)
IsBytes text bytes = (count : List ℕ) × (text ≡ count ++ bytes) × IsUnsigned 32 count (length bytes) × AreBytes bytes

abbrev pub bytes_at : Reading (List ℕ)
bytes_at bytes = unsigned_at 32 bytes >>= λ n. piece_at n.0 n.1

-- Section 5.5.2: a size, and a form in just that many bytes
abbrev pub Sized : {X : Type 0} → Form X → Form X
Sized Spells text x = (contents : List ℕ) × IsBytes text contents × Spells contents x

-- what is read of all the bytes
abbrev pub all_at : {X : Type 0} → Reading X → List ℕ → Option X
all_at read bytes = read bytes >>= λ x. (if length x.1 == 0 then Some x.0 else None)

abbrev pub sized_at : {X : Type 0} → Reading X → Reading X
sized_at read bytes = bytes_at bytes >>= λ p. all_at read p.0 >>= λ x. Some (x, p.1)
