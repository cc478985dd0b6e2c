-- Sections 5.3.10 and 5.5.9 of the Core Specification: how globals are written that begin with given values.
use Rattle.std.specs.Prelude.{ℕ, Bool, List, [], ◌∷◌, ◌++◌, if◌then◌else◌}
use Rattle.std.specs.List.{zip}
use Rattle.wz_types.specs.declared.types.GlobalType.{GlobalType}
use Rattle.wz_types.specs.declared.value.Value.{Value}
use Rattle.wz_module.specs.Globals.{GlobalDef}
use Rattle.wz_decode_code.specs.Types.{type_byte}
use Rattle.wz_encode.specs.Vectors.{vector_text}
use Rattle.wz_encode.specs.Constants.{constant_code, constant_expression_text}

-- mut ::= 0x00 (constant) | 0x01 (mutable)
abbrev pub mutability_byte : Bool → ℕ
mutability_byte mutable = if mutable then 0x01 else 0x00

-- globaltype ::= valtype mut
abbrev pub global_type_text : GlobalType → List ℕ
global_type_text type = type_byte type.value ∷ mutability_byte type.mutable ∷ []

-- a global of this type that begins with this value
abbrev pub global_with : GlobalType × Value → GlobalDef
global_with global = record { kind = global.0; init = constant_code global.1 }

-- global ::= globaltype expr
abbrev pub global_text : GlobalType × Value → List ℕ
global_text global = global_type_text global.0 ++ constant_expression_text global.1

-- globalsec ::= vec(global)
abbrev pub globals_text : List GlobalType → List Value → List ℕ
globals_text kinds values = vector_text global_text (zip kinds values)
