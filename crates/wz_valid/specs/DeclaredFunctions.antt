-- Section 3.4.10 of the Core Specification: the functions of which a body may make references, which are those that occur in the
-- module outside its functions and its start: in globals, element segments and exports. (The offset of a data segment is an i32, so
-- none that names a function is valid.)
use Rattle.std.specs.Prelude.{◌≡◌, ℕ, List, ◌++◌}
use Rattle.std.specs.List.{flat_map}
use Rattle.wz_code.specs.References.{has_number, referred_in}
use Rattle.wz_module.specs.Module.{Module}
use Rattle.wz_module.specs.References.{referred_in_segment, exported_function}

-- the declared functions of a module
abbrev pub declared_in : Module → List ℕ
declared_in m =
    flat_map (λ g. referred_in g.init) m.globals
    ++ (flat_map referred_in_segment m.elements ++ flat_map (λ e. exported_function e.target) m.exports)

-- two lists have the same numbers
abbrev pub HaveSameNumbers : List ℕ → List ℕ → Type 0
HaveSameNumbers one other = (function : ℕ) → has_number function one ≡ has_number function other
