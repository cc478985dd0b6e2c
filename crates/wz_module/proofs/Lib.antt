mod BlockLemmas
