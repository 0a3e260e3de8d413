use Rattle.std.proofs.Common.{◌≤◌, length}
use Rattle.j_cuts_key.proofs.Linked.{AreLinksFrom}
use Rattle.j_cuts_key.proofs.linking.links.Given as goal

abbrev pub invariant-loop-k : goal.invariant-loop-k
invariant-loop-k l = record {
  within : l.k ≤ length l.classes;
  linked : AreLinksFrom l.classes l.k l.heads.items l.next.items;
}

abbrev pub decreases-loop-k : goal.decreases-loop-k
decreases-loop-k l = l.k
