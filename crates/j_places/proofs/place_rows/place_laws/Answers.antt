use Rattle.j_places.proofs.AxisLaws.{taken_and_left, length-rotated}
use Rattle.j_places.proofs.ReverseLaws.{reversed_twice}
use Rattle.j_places.proofs.place_rows.place_laws.Goals as goal

pub returns-clause-taken_and_left : goal.returns-clause-taken_and_left
returns-clause-taken_and_left c = taken_and_left

pub returns-clause-rotated_length : goal.returns-clause-rotated_length
returns-clause-rotated_length c = length-rotated

pub returns-clause-reversed_twice : goal.returns-clause-reversed_twice
returns-clause-reversed_twice c = reversed_twice
