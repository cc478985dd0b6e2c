-- Functions of which bodies make references, and which the output must still declare (section 3.4.10 of the WebAssembly Core
-- Specification 2.0: a body may refer to functions that occur outside bodies alone).
use Rattle.std.specs.Prelude.{ℕ, List, [], ◌∷◌, ◌++◌, nat_lt, not, filter, if◌then◌else◌}
use Rattle.std.specs.List.{flat_map}
use Rattle.wz_types.specs.declared.value.Reference.{Reference}
use Rattle.wz_types.specs.declared.value.Reference.TheVariants.{Null, Fn, Foreign}
use Rattle.wz_types.specs.declared.value.Value.{Value}
use Rattle.wz_types.specs.declared.value.Value.TheVariants as value
use Rattle.wz_code.specs.References.{has_number, referred_in}
use Rattle.wz_module.specs.Functions.{BodyTree}
use Rattle.wz_module.specs.Module.{Module}
use Rattle.wz_module.specs.References.{referred_in_segment, exported_function}
use Rattle.wz_snapshot.specs.Recorded.{RecordedState}
use Rattle.wz_exports.specs.Kept.{KeptExports}

-- the functions that a body names by `ref.func`
abbrev pub body_refs : BodyTree → List ℕ
body_refs body = referred_in body.1

-- ---- the functions that occur elsewhere: in element segments, kept exports and reached globals

abbrev pub reference_refs : Reference → List ℕ
reference_refs (Null kind) = []
reference_refs (Fn function) = function ∷ []
reference_refs (Foreign id sort) = []

abbrev pub value_refs : Value → List ℕ
value_refs (value.I32 bits) = []
value_refs (value.I64 bits) = []
value_refs (value.F32 bits) = []
value_refs (value.F64 bits) = []
value_refs (value.Ref reference) = reference_refs reference

abbrev pub refs_elsewhere : Module → RecordedState → KeptExports → List ℕ
refs_elsewhere m r k = flat_map referred_in_segment m.elements ++ (flat_map (λ e. exported_function e.target) k.entries ++ flat_map value_refs r.globals)

-- ---- the whole

-- rising numbers and one more, in its place, unless it is there
abbrev pub number_inserted : List ℕ → ℕ → List ℕ
number_inserted [] number = number ∷ []
number_inserted (first ∷ numbers) number =
    if nat_lt number first then number ∷ first ∷ numbers
    else (if nat_lt first number then first ∷ number_inserted numbers number
    else first ∷ numbers)

-- the numbers of a list, each once, from the lowest on
abbrev pub rising : List ℕ → List ℕ
rising [] = []
rising (number ∷ numbers) = number_inserted (rising numbers) number

-- the functions that bodies name and that occur nowhere else
abbrev pub undeclared_functions : Module → RecordedState → KeptExports → List ℕ
undeclared_functions m r k = filter (λ function. not (has_number function (refs_elsewhere m r k))) (rising (flat_map body_refs m.bodies))
