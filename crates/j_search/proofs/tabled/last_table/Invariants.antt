use Rattle.std.proofs.Common.{◌≡◌, ◌<◌, ℕ, pos, length, map, get_or}
use Rattle.j_search.proofs.Tables.{last_below}
use Rattle.j_search.proofs.tabled.last_table.Given as goal

abbrev pub invariant-loop-j : goal.invariant-loop-j
invariant-loop-j g l = record {
  wide : length l.table.items ≡ l.range.width;
  there : (w : ℕ) → w < l.range.width → get_or l.table.items w (pos 0) ≡ pos (last_below (map g.T.Numbered.number l.items) l.range.low w (length l.items) l.j);
}
