use Rattle.std.proofs.Common.{◌<◌, ◌^◌}
use Rattle.j_loops.specs.Results.{AreResults}
use Rattle.j_loops.proofs.loops.fill_equal.Given as goal

abbrev pub invariant-loop-k : goal.invariant-loop-k
invariant-loop-k g l = l.bad < 2 ^ 63 → AreResults g.O.Op.left_atom g.O.Op.right_atom g.Z.Stored.atom g.Z.Stored.IsKept g.O.Op.meaning 1 1 l.x l.y l.out l.k
