use Rattle.std.proofs.Common.{◌≡◌, length}
use Rattle.j_search.specs.Sought.{run_places}
use Rattle.j_search.proofs.tabled.find_each_by_table.Given as goal

abbrev pub invariant-loop-cell : goal.invariant-loop-cell
invariant-loop-cell g l = l.places.items ≡ run_places g.T.Key.same l.fn.side 1 (length l.items) l.cell-index l.items l.cells
