-- What a sink in memory means: it tells its text. These meanings are this tool's own: the WebAssembly
-- Core Specification doesn't speak of files.
use Rattle.std.specs.Prelude.{ℕ, Option, Some}
use Rattle.wz_io.specs.World.{Said}
use Rattle.wz_io.specs.declared.mem_sink.MemSink.{MemSink}

abbrev pub mem_said : MemSink → Said
mem_said sink = record { faults = sink.faults; text = Some sink.text.items }

-- how many more puts go through, where not all do
abbrev pub mem_puts_left : MemSink → Option ℕ
mem_puts_left sink = sink.puts_left
