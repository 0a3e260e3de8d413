use Rattle.std.proofs.Common.{◌≡◌, fold, replicate, vec_len}
use Rattle.j_display.specs.Rows.{pieces, wider}
use Rattle.j_display.proofs.measure.widest_columns.Given as goal

abbrev pub invariant-loop-k : goal.invariant-loop-k
invariant-loop-k l = record { widest : l.widest.items ≡ fold wider (replicate l.columns 0) (pieces l.k l.columns l.widths); length : vec_len l.widest ≡ l.columns }
