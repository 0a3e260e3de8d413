use Rattle.std.proofs.Common.{◌≡◌, drop}
use Rattle.std.specs.Cmp.Lexicographic.{pointwise}
use Rattle.j_noun.specs.Viewed.{match_bit}
use Rattle.j_noun.proofs.view.bits_match.Given as goal

abbrev pub invariant-loop-i : goal.invariant-loop-i
invariant-loop-i l = pointwise match_bit l.wholes l.bits ≡ pointwise match_bit (drop l.i l.wholes) (drop l.i l.bits)
