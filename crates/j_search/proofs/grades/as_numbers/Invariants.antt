use Rattle.std.proofs.Common.{◌≡◌, map, pos, take}
use Rattle.j_search.proofs.grades.as_numbers.Given as goal

abbrev pub invariant-loop-place : goal.invariant-loop-place
invariant-loop-place l = l.numbers.items ≡ map pos (take l.place-index l.places)
