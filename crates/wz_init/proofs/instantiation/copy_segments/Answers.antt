use Rattle.std.proofs.Common.{◌≡◌}
use Rattle.wz_module.specs.Meaning.{module_of}
use Rattle.wz_init.specs.States.{state_in}
use Rattle.wz_init.specs.Functions.{stored_functions}
use Rattle.wz_init.specs.Instances.{Instance}
use Rattle.wz_init.specs.Instantiation.{fresh}
use Rattle.wz_init.specs.Plain.{plain_elements_run, plain_datas_run, IsUnfit}
use Rattle.wz_init.proofs.ModuleLemmas.{elem_bodies, data_bodies, same_elements}
use Rattle.wz_init.proofs.FreshLemmas.{was_allocated, elements_are_ready, datas_are_ready, comes_to, made_fresh, unfit_element, unfit_data, ok_along, err_along}
use Rattle.wz_init.proofs.instantiation.copy_segments.Goals as goal

pub copy_elements-requires-clause-ready : goal.copy_elements-requires-clause-ready
copy_elements-requires-clause-ready g c =
    let m = module_of c.args.«module».now in
    let elements = c.elements.result.now in
    let bodies = elem_bodies m elements c.elements.ensures c.requires.profile (c.valid_items.ensures.elements m c.requires.valid) in
    elements_are_ready m elements c.args.store.now c.elements.ensures bodies c.args.«module».now.short_lists.references (same_elements m elements c.elements.ensures bodies)
    (was_allocated m (stored_functions m) c.args.store.now c.requires.allocated)

pub copy_datas-requires-clause-ready : goal.copy_datas-requires-clause-ready
copy_datas-requires-clause-ready g c =
    let m = module_of c.args.«module».now in
    let segments = c.datas-segments.result.now in
    let modes = data_bodies m segments c.datas-segments.ensures c.requires.profile (c.valid_items.ensures.datas m c.requires.valid) in
    datas_are_ready m c.elements.result.now segments c.args.store.now c.copy_elements.new.store c.datas-segments.ensures modes
    c.args.«module».now.short_lists.contents (was_allocated m (stored_functions m) c.args.store.now c.requires.allocated) c.in-Ok.ensures.copied

pub returns-in-Ok-clause-fresh : goal.returns-in-Ok-clause-fresh
returns-in-Ok-clause-fresh g c =
    let m = module_of c.args.«module».now in
    let elements = c.elements.result.now in
    let segments = c.datas-segments.result.now in
    let bodies = elem_bodies m elements c.elements.ensures c.requires.profile (c.valid_items.ensures.elements m c.requires.valid) in
    let modes = data_bodies m segments c.datas-segments.ensures c.requires.profile (c.valid_items.ensures.datas m c.requires.valid) in
    let was = was_allocated m (stored_functions m) c.args.store.now c.requires.allocated in
    let total = comes_to m elements segments c.args.store.now c.elements.ensures c.datas-segments.ensures bodies modes was in
    ok_along c.copy_datas.result (plain_datas_run 0 segments c.copy_elements.new.store ≡ Instance c.copy_datas.new.store) (fresh m ≡ Instance (state_in m c.copy_datas.new.store))
    (λ ran.
    made_fresh m segments (plain_elements_run 0 elements c.args.store.now) c.copy_elements.new.store c.copy_datas.new.store total c.in-Ok.ensures.copied ran)
    c.copy_datas.ensures.copied

pub returns-in-Ok-clause-unfit : goal.returns-in-Ok-clause-unfit
returns-in-Ok-clause-unfit g c =
    let m = module_of c.args.«module».now in
    let elements = c.elements.result.now in
    let segments = c.datas-segments.result.now in
    let bodies = elem_bodies m elements c.elements.ensures c.requires.profile (c.valid_items.ensures.elements m c.requires.valid) in
    let modes = data_bodies m segments c.datas-segments.ensures c.requires.profile (c.valid_items.ensures.datas m c.requires.valid) in
    let was = was_allocated m (stored_functions m) c.args.store.now c.requires.allocated in
    let total = comes_to m elements segments c.args.store.now c.elements.ensures c.datas-segments.ensures bodies modes was in
    err_along c.copy_datas.result (λ fault. IsUnfit (plain_datas_run 0 segments c.copy_elements.new.store) fault) (λ fault. IsUnfit (fresh m) fault)
    (λ fault unfit.
    unfit_data m (λ now. plain_datas_run 0 segments now) (plain_elements_run 0 elements c.args.store.now) c.copy_elements.new.store fault total c.in-Ok.ensures.copied unfit)
    c.copy_datas.ensures.unfit

pub returns-in-Err-clause-unfit : goal.returns-in-Err-clause-unfit
returns-in-Err-clause-unfit g c =
    let m = module_of c.args.«module».now in
    let elements = c.elements.result.now in
    let segments = c.datas-segments.result.now in
    let bodies = elem_bodies m elements c.elements.ensures c.requires.profile (c.valid_items.ensures.elements m c.requires.valid) in
    let modes = data_bodies m segments c.datas-segments.ensures c.requires.profile (c.valid_items.ensures.datas m c.requires.valid) in
    let was = was_allocated m (stored_functions m) c.args.store.now c.requires.allocated in
    let total = comes_to m elements segments c.args.store.now c.elements.ensures c.datas-segments.ensures bodies modes was in
    unfit_element m (λ now. plain_datas_run 0 segments now) (plain_elements_run 0 elements c.args.store.now) c.in-Err.fault total c.in-Err.ensures.unfit
