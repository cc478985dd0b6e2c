use Rattle.std.proofs.Common.{◌-◌, ◌^◌, map}
use Rattle.wz_module.specs.ShortLists.{IsShortList}
use Rattle.wz_module.specs.Views.{import_of, elem_of, data_of}
use Rattle.wz_module.specs.Meaning.{module_of}
use Rattle.wz_init.specs.Plain.{plain_global, plain_element}
use Rattle.wz_init.proofs.AllocationLemmas.{room_for_own, all_is_allocated}
use Rattle.wz_init.proofs.ModuleLemmas.{all_of_map, global_bodies, elem_bodies, same_globals, same_elements}
use Rattle.wz_init.proofs.instantiation.allocate.Goals as goal

pub add_own-requires : goal.add_own-requires
add_own-requires g c =
    let m = module_of c.args.«module».now in
    room_for_own c.new-store.result c.add_imports.new.store c.types.result.now (map import_of c.imports.result.now) c.functions.result.now m (2 ^ 32 - 1) c.new-store.ensures
    c.in_ok-add_imports.ensures c.imports.ensures c.functions.ensures c.args.«module».now.short_lists.functions

pub add_globals-requires-clause-plain : goal.add_globals-requires-clause-plain
add_globals-requires-clause-plain g c =
    let m = module_of c.args.«module».now in
    λ k d less. (global_bodies m c.globals.result.now c.globals.ensures c.requires.profile (c.valid_items.ensures.globals m c.requires.valid) k d less).plain

pub add_elements-requires-clause-plain : goal.add_elements-requires-clause-plain
add_elements-requires-clause-plain g c =
    let m = module_of c.args.«module».now in
    λ k d less. (elem_bodies m c.elements.result.now c.elements.ensures c.requires.profile (c.valid_items.ensures.elements m c.requires.valid) k d less).items.plain

pub add_elements-requires-clause-short : goal.add_elements-requires-clause-short
add_elements-requires-clause-short g c =
    let m = module_of c.args.«module».now in
    all_of_map (λ e. IsShortList e.init) elem_of c.elements.result.now m.elements c.elements.ensures c.args.«module».now.short_lists.references

pub add_datas-requires-clause-short : goal.add_datas-requires-clause-short
add_datas-requires-clause-short g c =
    let m = module_of c.args.«module».now in
    all_of_map (λ d. IsShortList d.bytes) data_of c.datas.result.now m.datas c.datas.ensures c.args.«module».now.short_lists.contents

pub returns : goal.returns
returns g c =
    let m = module_of c.args.«module».now in
    let globals = global_bodies m c.globals.result.now c.globals.ensures c.requires.profile (c.valid_items.ensures.globals m c.requires.valid) in
    let elements = elem_bodies m c.elements.result.now c.elements.ensures c.requires.profile (c.valid_items.ensures.elements m c.requires.valid) in
    all_is_allocated m c.new-store.result c.add_imports.new.store c.add_own.new.store c.add_globals.new.store c.add_tables.new.store c.add_memories.new.store
    c.add_elements.new.store c.add_datas.new.store c.types.result.now (map import_of c.imports.result.now) c.functions.result.now c.tables.result.now
    c.memories.result.now c.datas.result.now (map plain_global c.globals.result.now) (map plain_element c.elements.result.now) c.types.ensures c.imports.ensures
    c.functions.ensures c.tables.ensures c.memories.ensures c.datas.ensures (same_globals m c.globals.result.now c.globals.ensures globals)
    (same_elements m c.elements.result.now c.elements.ensures elements)
    (record {
      at0 = c.new-store.ensures;
      at1 = c.in_ok-add_imports.ensures;
      at2 = c.in_ok-add_own.ensures;
      at3 = c.in_ok-add_globals.ensures;
      at4 = c.in_ok-add_tables.ensures;
      at5 = c.in_ok-add_memories.ensures;
      at6 = c.in_ok-add_elements.ensures;
      at7 = c.in_ok-add_datas.ensures;
    })
