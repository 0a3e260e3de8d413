use Rattle.std.proofs.Common.{◌≡◌, ◌++◌, take}
use Rattle.j_search.specs.Kept.{class_row}
use Rattle.j_search.proofs.kept.append_class.Given as goal

abbrev pub invariant-loop-place : goal.invariant-loop-place
invariant-loop-place l = l.out.items ≡ l.fn.out.items ++ class_row l.i (take l.place-index l.places)
