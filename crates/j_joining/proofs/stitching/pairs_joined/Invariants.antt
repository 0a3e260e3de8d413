use Rattle.std.proofs.Common.{◌≡◌, length}
use Rattle.j_joining.proofs.Stitched.{going, all}
use Rattle.j_joining.proofs.stitching.pairs_joined.Given as goal

-- the results so far, then what the other pairs give, are all results
abbrev pub invariant-loop-k : goal.invariant-loop-k
invariant-loop-k l = record {
  frame : l.results.frame ≡ l.plan.agreed.frame;
  many : length l.results.results ≡ l.k;
  same : going l.plan l.x l.y l.k l.results.results ≡ all l.plan l.x l.y;
}
