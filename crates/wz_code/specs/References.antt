-- The functions to which code makes references, by `ref.func` (section 2.4.3 of the Core Specification), and sets of them.
use Rattle.std.specs.Prelude.{◌≡◌, ℕ, List, [], ◌∷◌, ◌++◌, Bool, ◌==◌, ◌||◌, IsTrue}
use Rattle.std.specs.List.{list_any}
use Rattle.wz_code.specs.declared.instr.Instr.{Instr}
use Rattle.wz_code.specs.declared.instr.Instr.TheVariants.{RefFunc}
use Rattle.wz_code.specs.Trees.{Code, End, Then, InBlock, InLoop, InIf, Leaf, Plain, TableBranch, TypedSelect}

-- the function that `ref.func` names
abbrev pub referred_by : Instr → List ℕ
referred_by (RefFunc function) = function ∷ []
referred_by instr = []

abbrev pub referred_in_leaf : Leaf → List ℕ
referred_in_leaf (Plain instr) = referred_by instr
referred_in_leaf (TableBranch numbers last) = []
referred_in_leaf (TypedSelect types) = []

-- those of all instructions of the code
abbrev pub referred_in : Code → List ℕ
referred_in End = []
referred_in (Then leaf rest) = referred_in_leaf leaf ++ referred_in rest
referred_in (InBlock shape inner rest) = referred_in inner ++ referred_in rest
referred_in (InLoop shape inner rest) = referred_in inner ++ referred_in rest
referred_in (InIf shape first second rest) = referred_in first ++ (referred_in second ++ referred_in rest)

-- ---- sets of functions, as lists of their numbers

abbrev pub has_number : ℕ → List ℕ → Bool
has_number number numbers = list_any (λ other. number == other) numbers

-- the second list has each number of the first
abbrev pub AreIn : List ℕ → List ℕ → Type 0
AreIn numbers others = (number : ℕ) → IsTrue (has_number number numbers) → IsTrue (has_number number others)

-- the numbers of one list and those that others name are the numbers of the list now
abbrev pub AddsFunctions : List ℕ → List ℕ → List ℕ → Type 0
AddsFunctions before now more = (function : ℕ) → has_number function now ≡ (has_number function before || has_number function more)
