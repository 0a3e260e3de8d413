use Rattle.std.proofs.Common.{◌≡◌, length}
use Rattle.j_definitions.specs.Cells.{in_order}
use Rattle.j_numbers.specs.Readings.{values, limit_or_fault}
use Rattle.j_numbers.proofs.words.fault_beyond.Given as goal

abbrev pub invariant-loop-part : goal.invariant-loop-part
invariant-loop-part l = limit_or_fault (in_order (values l.infinite l.rest)) ≡ limit_or_fault (in_order (values l.infinite l.text))

abbrev pub decreases-loop-part : goal.decreases-loop-part
decreases-loop-part l = length l.rest
