use Rattle.std.proofs.Common.{IsSome}
use Rattle.j_io.proofs.tests.copy.Given as goal

-- a name is selected
abbrev pub invariant-reads : goal.invariant-reads
invariant-reads g l = IsSome (g.S.Source.selected l.source)
