-- Section 5.5.16 of the Core Specification: why bytes spell no module.
use Rattle.std.specs.Prelude.{◌≢◌, ℕ, List, ◌++◌}
use Rattle.wz_decode.specs.declared.fault.DecodeFault.{DecodeFault}
use Rattle.wz_decode.specs.declared.fault.DecodeFault.TheVariants.{NotWasm, BadSection, BadCounts, NoMemory}
use Rattle.wz_decode.specs.Header.{header}
use Rattle.wz_decode.specs.Contents.{IsBadSection}
use Rattle.wz_decode.specs.Front.{HasBadCounts}

-- bytes that don't begin with the header
abbrev pub LacksHeader : List ℕ → Type 0
LacksHeader bytes = (rest : List ℕ) → bytes ≢ header ++ rest

-- bytes have this fault; want of memory is none of theirs
abbrev pub IsCause : List ℕ → DecodeFault → Type 0
IsCause bytes NotWasm = LacksHeader bytes
IsCause bytes (BadSection at) = IsBadSection bytes at
IsCause bytes BadCounts = HasBadCounts bytes
IsCause bytes NoMemory = ⊥
