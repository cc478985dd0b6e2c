-- The options of the command line. All of it is this tool's own.
use Rattle.std.specs.Prelude.{ℕ, ◌+◌, ◌-◌, ◌*◌, Bool, true, false, ◌&&◌, nat_le, List, [], ◌∷◌, Option, Some, None, ◌==◌, if◌then◌else◌, codes}

-- an option that takes no value
pub data Flag : Type 0 where
  KeepInit : Flag
  Reactor : Flag
  Report : Flag

-- an option that takes one
pub data Valued : Type 0 where
  Output : Valued
  Function : Valued
  RenameFunction : Valued
  Fuel : Valued
  SampleNumber : Valued

abbrev pub same_flag : Flag → Flag → Bool
same_flag KeepInit KeepInit = true
same_flag Reactor Reactor = true
same_flag Report Report = true
same_flag one other = false

abbrev pub same_valued : Valued → Valued → Bool
same_valued Output Output = true
same_valued Function Function = true
same_valued RenameFunction RenameFunction = true
same_valued Fuel Fuel = true
same_valued SampleNumber SampleNumber = true
same_valued one other = false

-- two texts are one
abbrev pub same_text : List ℕ → List ℕ → Bool
same_text [] [] = true
same_text (a ∷ one) (b ∷ other) = (a == b) && same_text one other
same_text one other = false

-- ---- the names of the options

abbrev pub flag_named : List ℕ → Option Flag
flag_named word =
    if same_text word (codes "--keep-init-func") then Some KeepInit
    else (if same_text word (codes "--reactor") then Some Reactor
    else (if same_text word (codes "--report") then Some Report
    else None))

-- the long names, which begin with two dashes
abbrev pub long_named : List ℕ → Option Valued
long_named word =
    if same_text word (codes "--output") then Some Output
    else (if same_text word (codes "--init-func") then Some Function
    else (if same_text word (codes "--rename-func") then Some RenameFunction
    else (if same_text word (codes "--fuel") then Some Fuel
    else (if same_text word (codes "--sample") then Some SampleNumber
    else None))))

-- the short ones, of one letter behind one dash
abbrev pub short_named : List ℕ → Option Valued
short_named word =
    if same_text word (codes "-o") then Some Output
    else (if same_text word (codes "-f") then Some Function
    else (if same_text word (codes "-r") then Some RenameFunction
    else None))

-- ---- numbers: decimal digits, the highest first

abbrev pub is_digit : ℕ → Bool
is_digit byte = nat_le 48 byte && nat_le byte 57

-- the number that digits spell behind the digits of another, if all are digits
abbrev pub digits_behind : ℕ → List ℕ → Option ℕ
digits_behind number [] = Some number
digits_behind number (byte ∷ bytes) = if is_digit byte then digits_behind (number * 10 + (byte - 48)) bytes else None

-- one digit or more
abbrev pub decimal : List ℕ → Option ℕ
decimal [] = None
decimal (byte ∷ bytes) = digits_behind 0 (byte ∷ bytes)
