use Rattle.std.proofs.Common.{◌≡◌, not, ◌&&◌}
use Rattle.j_noun.specs.Runs.{all_equal_from}
use Rattle.j_noun.proofs.blocks.differ.Given as goal

abbrev pub invariant-loop-i : goal.invariant-loop-i
invariant-loop-i l = (not l.found && all_equal_from l.a l.b l.c l.d l.i) ≡ all_equal_from l.a l.b l.c l.d 0
