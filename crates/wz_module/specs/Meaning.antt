-- What a struct `Module` is in the sense of section 2.5 of the Core Specification.
use Rattle.wz_module.specs.Module.{Module}
use Rattle.wz_module.specs.Views.{module_with}
use Rattle.wz_module.specs.declared.module.Module as code

abbrev pub module_of : code.Module → Module
module_of m = module_with m.parts
