-- Faults of items and of code, in a section.
use Rattle.wz_bytes.specs.declared.vectors.ItemFault.{ItemFault}
use Rattle.wz_bytes.specs.declared.vectors.ItemFault.TheVariants as item
use Rattle.wz_decode_code.specs.declared.fault.CodeFault.{CodeFault}
use Rattle.wz_decode_code.specs.declared.fault.CodeFault.TheVariants as code
use Rattle.wz_decode_sections.specs.declared.fault.SectionFault.{SectionFault}
use Rattle.wz_decode_sections.specs.declared.fault.SectionFault.TheVariants.{Bad, NoMemory}

abbrev pub section_fault : ItemFault → SectionFault
section_fault item.Bad = Bad
section_fault item.NoMemory = NoMemory

abbrev pub item_fault_of : CodeFault → ItemFault
item_fault_of code.Bad = item.Bad
item_fault_of code.NoMemory = item.NoMemory
