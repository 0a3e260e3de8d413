use Rattle.std.proofs.Common.{◌≡◌, vec_len}
use Rattle.j_noun.specs.Viewed.{viewed}
use Rattle.j_display.specs.Rows.{pieces, column_widths}
use Rattle.j_display.proofs.columns.column_widths.Given as goal

abbrev pub invariant-loop-k : goal.invariant-loop-k
invariant-loop-k l = record { widths : l.widths.items ≡ column_widths l.columns (pieces l.k l.columns (viewed l.atoms)); length : vec_len l.widths ≡ l.columns }
