-- The line that tells how a run ended. All words are this tool's own. Numbers are decimal, and places count from 0.
use Rattle.std.specs.Prelude.{ℕ, ◌+◌, ◌/◌, ◌%◌, nat_lt, Bool, false, not, List, [], ◌∷◌, ◌++◌, Option, None, Some, codes, decimal, if◌then◌else◌}
use Rattle.wz_types.specs.declared.trap.TrapKind.{TrapKind}
use Rattle.wz_types.specs.declared.trap.TrapKind.TheVariants as trap
use Rattle.wz_code.specs.declared.numeric.NumOp.{NumOp}
use Rattle.wz_code.specs.Numeric.{opcode_of}
use Rattle.wz_words.specs.declared.settings.Usage.{Usage}
use Rattle.wz_words.specs.declared.settings.Usage.TheVariants as usage
use Rattle.wz_decode.specs.declared.fault.DecodeFault.{DecodeFault}
use Rattle.wz_decode.specs.declared.fault.DecodeFault.TheVariants as decode
use Rattle.wz_valid.specs.declared.faults.Part.{Part}
use Rattle.wz_valid.specs.declared.faults.Part.TheVariants as part
use Rattle.wz_valid.specs.declared.faults.ValidFault.{ValidFault}
use Rattle.wz_valid.specs.declared.faults.ValidFault.TheVariants as valid
use Rattle.wz_valid.specs.declared.faults.OutOfProfile.{OutOfProfile}
use Rattle.wz_valid.specs.declared.faults.OutOfProfile.TheVariants as profile
use Rattle.wz_exports.specs.declared.fault.ExportFault.{ExportFault}
use Rattle.wz_exports.specs.declared.fault.ExportFault.TheVariants as export
use Rattle.wz_init.specs.declared.order.Phase.{Phase}
use Rattle.wz_init.specs.declared.order.Phase.TheVariants as phase
use Rattle.wz_init.specs.declared.faults.InitFault.{InitFault}
use Rattle.wz_init.specs.declared.faults.InitFault.TheVariants as init
use Rattle.wz_top.specs.declared.outcome.Report.{Report}
use Rattle.wz_top.specs.declared.outcome.Outcome.{Outcome}
use Rattle.wz_top.specs.declared.outcome.Outcome.TheVariants.{Done, Usage as BadWords, InputFault, InputTooLong, Decode, Valid, Profile, Exports, Init, OutputFault, NoMemory}

-- texts one behind the other
abbrev pub words_joined : List (List ℕ) → List ℕ
words_joined [] = []
words_joined (text ∷ texts) = text ++ words_joined texts

-- a name between double quotes, its bytes as they are
abbrev pub quoted : List ℕ → List ℕ
quoted name = 34 ∷ (name ++ 34 ∷ [])

-- words with a number between them
abbrev pub numbered : List ℕ → ℕ → List ℕ → List ℕ
numbered before number after = words_joined (before ∷ decimal number ∷ after ∷ [])

-- words with a name between them
abbrev pub with_name : List ℕ → List ℕ → List ℕ → List ℕ
with_name before name after = words_joined (before ∷ quoted name ∷ after ∷ [])

abbrev pub no_memory_words : List ℕ
no_memory_words = codes "out of memory"

-- ---- the words of each outcome

abbrev pub report_words : Report → List ℕ
report_words report = words_joined (
    decimal report.ticks ∷ codes " ticks, " ∷ decimal report.pages ∷ codes " pages, "
    ∷ decimal report.segments ∷ codes " segments, " ∷ decimal report.bytes ∷ codes " bytes" ∷ [])

abbrev pub usage_words : Usage → List ℕ
usage_words (usage.UnknownOption at) = numbered (codes "word ") at (codes " is no known option")
usage_words (usage.MissingValue at) = numbered (codes "word ") at (codes " needs a value")
usage_words (usage.RepeatedOption at) = numbered (codes "word ") at (codes " repeats an option")
usage_words (usage.ExtraWord at) = numbered (codes "word ") at (codes " is one input too many")
usage_words (usage.BadNumber at) = numbered (codes "word ") at (codes " is no number in range")
usage_words (usage.BadRename at) = numbered (codes "word ") at (codes " is no rename of the form dst=src")
usage_words (usage.RenamesTooLong at) = numbered (codes "the renames up to word ") at (codes " are longer than 1048576 bytes")
usage_words (usage.RenameTwiceTo at) = numbered (codes "word ") at (codes " renames to a name that was given before")
usage_words (usage.RenameTwiceFrom at) = numbered (codes "word ") at (codes " renames an export that was renamed before")
usage_words usage.NoMemory = no_memory_words

abbrev pub decode_words : DecodeFault → List ℕ
decode_words decode.NotWasm = codes "the input is no WebAssembly module of version 1"
decode_words (decode.BadSection at) = numbered (codes "section ") at (codes " is outside this profile's grammar")
decode_words decode.BadCounts = codes "the counts of the sections don't agree"
decode_words decode.NoMemory = no_memory_words

abbrev pub part_word : Part → List ℕ
part_word part.Import = codes "import"
part_word part.Function = codes "function"
part_word part.Table = codes "table"
part_word part.Memory = codes "memory"
part_word part.Global = codes "global"
part_word part.Export = codes "export"
part_word part.Start = codes "start"
part_word part.Element = codes "element"
part_word part.Code = codes "code"
part_word part.DataSegment = codes "data"

abbrev pub invalid_words : Part → ℕ → List ℕ
invalid_words part index = words_joined (codes "invalid: " ∷ part_word part ∷ codes " " ∷ decimal index ∷ [])

abbrev pub valid_words : ValidFault → List ℕ
valid_words (valid.Invalid part index) = invalid_words part index
valid_words valid.NoMemory = no_memory_words

abbrev pub large_table_words : ℕ → ℕ → List ℕ
large_table_words index entries = words_joined (
    codes "the tables up to " ∷ decimal index ∷ codes " start with " ∷ decimal entries ∷ codes " entries, more than 10000000" ∷ [])

abbrev pub many_locals_words : ℕ → ℕ → List ℕ
many_locals_words function count = words_joined (
    codes "function " ∷ decimal function ∷ codes " has " ∷ decimal count ∷ codes " locals, more than 50000" ∷ [])

abbrev pub profile_words : OutOfProfile → List ℕ
profile_words (profile.ImportKind index) = numbered (codes "import ") index (codes " is no function")
profile_words (profile.MemoryTooLarge pages) = numbered (codes "the memories start with ") pages (codes " pages, more than 16384")
profile_words (profile.TableTooLarge index entries) = large_table_words index entries
profile_words (profile.TooManyLocals function count) = many_locals_words function count

abbrev pub export_words : ExportFault → List ℕ
export_words (export.NoInit name) = with_name (codes "there is no export ") name []
export_words (export.InitNotFunction name) = with_name (codes "the export ") name (codes " is no function")
export_words (export.InitType name) = with_name (codes "the function ") name (codes " has parameters or results")
export_words (export.RenameMissing name) = with_name (codes "there is no export ") name (codes " to rename")
export_words (export.RenameNotFunction name) = with_name (codes "the export ") name (codes " to rename is no function")
export_words (export.RenameInit name) = with_name (codes "the export ") name (codes " leaves and can't be renamed")
export_words export.NoMemory = no_memory_words

abbrev pub phase_word : Phase → List ℕ
phase_word phase.Start = codes "start"
phase_word phase.Reactor = codes "_initialize"
phase_word phase.Init = codes "initialisation"

abbrev pub trap_words : TrapKind → List ℕ
trap_words trap.Unreachable = codes "unreachable"
trap_words trap.DivideByZero = codes "integer divide by zero"
trap_words trap.IntegerOverflow = codes "integer overflow"
trap_words trap.MemoryBounds = codes "out of bounds memory access"
trap_words trap.TableBounds = codes "out of bounds table access"
trap_words trap.UndefinedElement = codes "undefined element"
trap_words trap.UninitializedElement = codes "uninitialized element"
trap_words trap.IndirectType = codes "indirect call type mismatch"
trap_words trap.Float = codes "float"
trap_words trap.Host = codes "host"

-- a byte in two upper-case hexadecimal digits
abbrev pub hex_digit : ℕ → ℕ
hex_digit n = if nat_lt n 10 then 48 + n else 55 + n

abbrev pub hex_byte : ℕ → List ℕ
hex_byte byte = hex_digit (byte / 16) ∷ hex_digit (byte % 16) ∷ []

-- the byte of an operation, and the number behind it where there is one
abbrev pub opcode_words : ℕ × Option ℕ → List ℕ
opcode_words (byte, None) = hex_byte byte
opcode_words (byte, Some number) = words_joined (hex_byte byte ∷ codes " " ∷ decimal number ∷ [])

abbrev pub trapped_words : Phase → TrapKind → List ℕ
trapped_words phase kind = words_joined (phase_word phase ∷ codes " trapped: " ∷ trap_words kind ∷ [])

abbrev pub float_words : NumOp → List ℕ
float_words op = codes "the initialisation uses the float operation " ++ opcode_words (opcode_of op)

abbrev pub init_words : InitFault → List ℕ
init_words (init.ElementOutOfBounds index) = numbered (codes "element segment ") index (codes " doesn't fit its table")
init_words (init.DataOutOfBounds index) = numbered (codes "data segment ") index (codes " doesn't fit its memory")
init_words (init.Trap phase kind) = trapped_words phase kind
init_words init.OutOfFuel = codes "the fuel ran out"
init_words (init.ImportCalled import) = numbered (codes "the initialisation calls import ") import []
init_words (init.FloatUsed op) = float_words op
init_words init.TableChanged = codes "the initialisation changes a table"
init_words init.TooManyFrames = codes "more than 20000 frames"
init_words init.TooManyFrameLocals = codes "more than 4000000 locals in all frames"
init_words init.NoMemory = no_memory_words

abbrev pub outcome_words : Outcome → List ℕ
outcome_words (Done report) = report_words report
outcome_words (BadWords fault) = usage_words fault
outcome_words InputFault = codes "the input can't be read"
outcome_words InputTooLong = codes "the input is longer than 33554432 bytes"
outcome_words (Decode fault) = decode_words fault
outcome_words (Valid fault) = valid_words fault
outcome_words (Profile cause) = profile_words cause
outcome_words (Exports fault) = export_words fault
outcome_words (Init fault) = init_words fault
outcome_words OutputFault = codes "the output can't be written"
outcome_words NoMemory = no_memory_words

-- ---- the line

-- the tool's name, the words and a line feed
abbrev pub line : Outcome → List ℕ
line outcome = codes "wizer: " ++ (outcome_words outcome ++ 10 ∷ [])

-- a run that succeeded says nothing unless its report is asked for
abbrev pub is_silent : Outcome → Bool → Bool
is_silent (Done report) reported = not reported
is_silent outcome reported = false

abbrev pub text : Outcome → Bool → List ℕ
text outcome reported = if is_silent outcome reported then [] else line outcome
