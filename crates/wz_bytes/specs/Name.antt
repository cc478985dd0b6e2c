-- Section 5.2.4 of the Core Specification: names.
use Rattle.std.specs.Prelude.{ℕ, List, Option, Some, None, IsUtf8, if◌then◌else◌}
use Rattle.std.specs.Str.{is_utf8}
use Rattle.wz_bytes.specs.Reading.{◌>>=◌}
use Rattle.wz_bytes.specs.Forms.{IsBytes, bytes_at}

-- The bytes spell a name, which is seen as its bytes in UTF-8: they are a vector of bytes that is UTF-8.
abbrev pub IsName : List ℕ → List ℕ → Type 0
IsName text name = IsBytes text name × IsUtf8 name

-- the name that stands in front of the bytes, and the bytes behind it
unfoldable pub name_at : List ℕ → Option (List ℕ × List ℕ)
name_at bytes = bytes_at bytes >>= λ n. if is_utf8 n.0 then Some n else None
