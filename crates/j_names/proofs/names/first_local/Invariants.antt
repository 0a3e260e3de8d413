use Rattle.std.proofs.Common.{◌≡◌, drop}
use Rattle.std.specs.List.{position_from}
use Rattle.j_names.specs.Kept.{has_name}
use Rattle.j_names.proofs.names.first_local.Given as goal

abbrev pub invariant-loop-i : goal.invariant-loop-i
invariant-loop-i l = position_from (has_name l.name) l.i (drop l.i l.locals) ≡ position_from (has_name l.name) 0 l.locals
