use Rattle.std.proofs.Common.{◌≡◌, take}
use Rattle.j_search.specs.Kept.{class_rows}
use Rattle.j_search.proofs.kept.class_rows.Given as goal

abbrev pub invariant-loop-i : goal.invariant-loop-i
invariant-loop-i l = l.bits.items ≡ class_rows (take l.i-index l.own) l.places
