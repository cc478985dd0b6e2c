use Rattle.wz_valid_code.proofs.LawLemmas.{blocks_of_tree, tree_of_blocks}
use Rattle.wz_valid_code.proofs.laws.tree_and_blocks.Goals as goal

pub returns-clause-blocks : goal.returns-clause-blocks
returns-clause-blocks c = blocks_of_tree c.tree_of_block.ensures

pub returns-clause-tree : goal.returns-clause-tree
returns-clause-tree c = tree_of_blocks c.tree_of_block.ensures
