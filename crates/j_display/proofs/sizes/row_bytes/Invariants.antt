use Rattle.std.proofs.Common.{◌≡◌, ◌≤◌, ◌*◌, ◌+◌, take}
use Rattle.std.specs.List.{sum_by}
use Rattle.j_display.proofs.sizes.row_bytes.Given as goal

abbrev pub invariant-loop-width : goal.invariant-loop-width
invariant-loop-width l = record { total : l.bytes ≡ sum_by (λ w. w + 1) (take l.width-index l.widths); few : l.bytes ≤ 256 * l.width-index }
