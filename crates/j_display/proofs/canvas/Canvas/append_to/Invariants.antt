use Rattle.std.proofs.Common.{◌≡◌, ◌≤◌, ◌++◌, take, vec_capacity}
use Rattle.j_display.specs.Rows.{joined}
use Rattle.j_display.proofs.canvas.Canvas.append_to.Given as goal

abbrev pub invariant-loop-r : goal.invariant-loop-r
invariant-loop-r l = record {
  items : l.into.items ≡ l.fn.into.items ++ joined (take l.r l.self);
  capacity : vec_capacity l.fn.into ≤ vec_capacity l.into;
}
