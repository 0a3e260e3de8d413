use Rattle.std.proofs.Common.{◌≡◌, pos, zip, drop}
use Rattle.j_insert.specs.Bases.{stepped}
use Rattle.j_insert.specs.Listed.{serving}
use Rattle.j_insert.proofs.bases.stepped.Given as goal

abbrev pub invariant-loop-k : goal.invariant-loop-k
invariant-loop-k l = stepped (pos 0) (zip (serving l.x l.n) (serving l.y l.n)) ≡ stepped l.r (zip (drop l.k (serving l.x l.n)) (drop l.k (serving l.y l.n)))
