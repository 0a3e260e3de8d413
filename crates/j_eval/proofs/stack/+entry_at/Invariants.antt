use Rattle.j_eval.proofs.stack.+entry_at.Given as goal

abbrev pub decreases-entry_at : goal.decreases-entry_at
decreases-entry_at l = l.k
