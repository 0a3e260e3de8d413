use Rattle.std.proofs.Common.{◌≡◌, ◌+◌, ◌*◌, ◌∙◌, ap, arith, length, map}
use Rattle.std.proofs.lemmas.List.FromFn.{length-map-range_with_len}
use Rattle.j_definitions.specs.Array.{number, product}
use Rattle.j_indices.proofs.counting.steps_of.Goals as goal

pub make-requires-clause-as_many : goal.make-requires-clause-as_many
make-requires-clause-as_many c =
    let many : length (map number c.in_ok-steps.steps.items) ≡ 2 * c.unsigned_abs-magnitude.result + 1 = ap length c.in_ok-steps.ensures ∙ length-map-range_with_len _ 0 (2 * c.unsigned_abs-magnitude.result + 1) in
    omega (arith, many, ap product c.shape_of.ensures)
