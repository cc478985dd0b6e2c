use Rattle.wz_machine.proofs.stacks.Stacks.special.Goals as goal

pub returns-in-MemoryGrow-clause-strode : goal.returns-in-MemoryGrow-clause-strode
returns-in-MemoryGrow-clause-strode g c = c.of_asking-in-MemoryGrow.ensures _ _ _ _ (c.memory_grow.ensures c.args.bodies.now)

pub returns-in-TableGrow-clause-strode : goal.returns-in-TableGrow-clause-strode
returns-in-TableGrow-clause-strode g c = c.of_asking-in-TableGrow.ensures _ _ _ _ (c.table_grow.ensures c.args.bodies.now)
