use Rattle.std.proofs.Common.{◌≡◌, drop}
use Rattle.std.specs.List.{position_from}
use Rattle.j_names.specs.Kept.{has_key}
use Rattle.j_names.proofs.names.first_row.Given as goal

abbrev pub invariant-loop-i : goal.invariant-loop-i
invariant-loop-i l = position_from (has_key (l.locale, l.name)) l.i (drop l.i l.rows) ≡ position_from (has_key (l.locale, l.name)) 0 l.rows
