use Rattle.std.proofs.Common.{◌≡◌, drop}
use Rattle.std.specs.Cmp.Lexicographic.{pointwise}
use Rattle.j_definitions.specs.Array.{arrays_match}
use Rattle.j_search.proofs.seeking.nouns_match.Given as goal

abbrev pub invariant-loop-i : goal.invariant-loop-i
invariant-loop-i l = pointwise arrays_match l.a l.b ≡ pointwise arrays_match (drop l.i l.a) (drop l.i l.b)
