-- What a sink over a standard stream means: it tells no text. These meanings are this tool's own: the
-- WebAssembly Core Specification doesn't speak of files.
use Rattle.std.specs.Prelude.{None}
use Rattle.wz_io.specs.World.{Said}
use Rattle.wz_io.specs.declared.std_sink.StdSink.{StdSink}

abbrev pub std_said : {A : Type 0} → StdSink A → Said
std_said sink = record { faults = sink.faults; text = None }
