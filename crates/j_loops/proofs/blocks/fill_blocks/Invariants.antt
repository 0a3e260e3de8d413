use Rattle.std.proofs.Common.{◌≤◌, ◌-◌, vec_len}
use Rattle.j_loops.specs.Results.{AreResults}
use Rattle.j_loops.proofs.blocks.fill_blocks.Given as goal

abbrev pub invariant-loop-out : goal.invariant-loop-out
invariant-loop-out g l = record {
  within : vec_len l.out ≤ l.n;
  done : AreResults g.O.Op.left_atom g.O.Op.right_atom g.Z.Stored.atom g.Z.Stored.IsKept g.O.Op.meaning l.left l.right l.x l.y l.out.items (vec_len l.out);
}

abbrev pub decreases-loop-out : goal.decreases-loop-out
decreases-loop-out g l = l.n - vec_len l.out
