-- A fault of code, in a vector of code.
use Rattle.wz_bytes.specs.declared.vectors.ItemFault.{ItemFault}
use Rattle.wz_bytes.specs.declared.vectors.ItemFault.TheVariants.{Bad, NoMemory}
use Rattle.wz_decode_code.specs.declared.fault.CodeFault.{CodeFault}
use Rattle.wz_decode_code.specs.declared.fault.CodeFault.TheVariants as code

abbrev pub item_fault : CodeFault → ItemFault
item_fault code.Bad = Bad
item_fault code.NoMemory = NoMemory
