use Rattle.j_eval.proofs.stack.+replace.Given as goal

abbrev pub decreases-replace : goal.decreases-replace
decreases-replace l = l.k
