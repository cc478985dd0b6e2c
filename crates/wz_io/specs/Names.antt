-- Names of files that the program keeps. These meanings are this tool's own: the WebAssembly Core
-- Specification doesn't speak of files.
use Rattle.wz_io.specs.World.{Name, Standard, File}
use Rattle.wz_io.specs.declared.names.OwnedName.{OwnedName}
use Rattle.wz_io.specs.declared.names.OwnedName.TheVariants as owned

abbrev pub owned_name : OwnedName → Name
owned_name owned.Standard = Standard
owned_name (owned.Path path) = File path.items
