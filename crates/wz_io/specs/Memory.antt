-- The files that stand in memory, as a finite map. These meanings are this tool's own: the WebAssembly
-- Core Specification doesn't speak of files.
use Rattle.std.specs.Prelude.{List, [], ◌∷◌}
use Rattle.std.specs.FinMap.{empty, insert}
use Rattle.wz_io.specs.World.{Contents}
use Rattle.wz_io.specs.declared.memory.Entry.{Entry}

-- the first entry of a path is the one that counts
abbrev pub contents : List Entry → Contents
contents [] = empty
contents (entry ∷ entries) = insert (contents entries) entry.path.items entry.bytes.items
