use Rattle.std.proofs.Common.{◌≡◌, ◌<◌, ℕ, pos, length, map, get_or}
use Rattle.j_search.proofs.Tables.{first_behind}
use Rattle.j_search.proofs.tabled.first_table.Given as goal

abbrev pub invariant-loop-behind : goal.invariant-loop-behind
invariant-loop-behind g l = record {
  wide : length l.table.items ≡ l.range.width;
  there : (w : ℕ) → w < l.range.width → get_or l.table.items w (pos 0) ≡ pos (first_behind (map g.T.Numbered.number l.items) l.range.low w l.count l.behind);
}
