-- Section 5.5.9 of the Core Specification: the global section.
use Rattle.std.specs.Prelude.{List}
use Rattle.wz_bytes.specs.Reading.{Form, Reading}
use Rattle.wz_bytes.specs.Forms.{Both, both_at, Made, made_at, IsVector}
use Rattle.wz_types.specs.declared.types.GlobalType.{GlobalType}
use Rattle.wz_code.specs.Trees.{Code}
use Rattle.wz_module.specs.Globals.{GlobalDef}
use Rattle.wz_decode_code.specs.Code.{IsExpression}
use Rattle.wz_decode_code.specs.Reading.{expression_at}
use Rattle.wz_decode_sections.specs.GlobalTypes.{IsGlobalType, global_type_at}

abbrev pub global_from : GlobalType × Code → GlobalDef
global_from x = record { kind = x.0; init = x.1 }

-- global ::= globaltype expr
abbrev pub IsGlobalDef : Form GlobalDef
IsGlobalDef text global = Made (λ x. global_from x) (Both (λ t type. IsGlobalType t type) (λ t code. IsExpression t code)) text global

-- globalsec ::= vec(global)
abbrev pub IsGlobalSection : Form (List GlobalDef)
IsGlobalSection payload globals = IsVector (λ t global. IsGlobalDef t global) payload globals

-- ---- what stands in front of bytes

abbrev pub global_def_at : Reading GlobalDef
global_def_at bytes = made_at (λ x. global_from x) (λ b. both_at (λ b. global_type_at b) (λ b. expression_at b) b) bytes
