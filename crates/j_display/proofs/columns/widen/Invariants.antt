use Rattle.std.proofs.Common.{◌≡◌, drop}
use Rattle.j_noun.specs.Viewed.{viewed}
use Rattle.j_display.proofs.Widening.{widened}
use Rattle.j_display.proofs.columns.widen.Given as goal

abbrev pub invariant-loop-j : goal.invariant-loop-j
invariant-loop-j l = l.widths ≡ widened l.j l.fn.widths (drop l.from (viewed l.atoms))
