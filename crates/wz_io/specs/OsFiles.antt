-- What the files of the runtime mean: what was opened, and no bytes. These meanings are this tool's
-- own: the WebAssembly Core Specification doesn't speak of files.
use Rattle.std.specs.Prelude.{Bool, Option, None, Some, is_some}
use Rattle.wz_io.specs.World.{World, Told, Current}
use Rattle.wz_io.specs.Names.{owned_name}
use Rattle.wz_io.specs.declared.files.Side.TheVariants as side
use Rattle.wz_io.specs.declared.os_files.OsFiles.{OsFiles}
use Rattle.wz_io.specs.declared.names.OwnedName.{OwnedName}
use Rattle.wz_io.specs.declared.os_files.Opened.{Opened}
use Rattle.wz_io.specs.declared.os_files.Opened.TheVariants as opened

-- no bytes are told
abbrev pub nothing_told : Told
nothing_told = record { stdin = None; stdout = None; files = None }

abbrev pub os_current : {I F : Type 0} → OwnedName → Bool → Opened I F → Option Current
os_current name failed opened.Nothing = None
os_current name failed (opened.Input source) =
    Some (record { side = side.Input; name = owned_name name; opened = is_some source; failed = failed })
os_current name failed (opened.Output target) =
    Some (record { side = side.Output; name = owned_name name; opened = is_some target; failed = failed })

abbrev pub os_world : {A B C D : Type 0} → OsFiles A B C D → World
os_world files = record {
  faults = files.faults;
  current = os_current files.name files.failed files.opened;
  told = nothing_told;
  left = None;
  reads = 0;
}
