use Rattle.std.proofs.Common.{◌≡◌, ◌≤◌, ◌∷◌, [], ◌++◌, length, take, drop, vec_capacity}
use Rattle.std.specs.List.{join_by, zip}
use Rattle.j_noun.specs.Viewed.{viewed}
use Rattle.j_display.specs.Rows.{set_right, atom_text}
use Rattle.j_display.proofs.lines.append_numbers.Given as goal

abbrev pub invariant-loop-j : goal.invariant-loop-j
invariant-loop-j l = record {
  items : l.into.items ≡ l.fn.into.items ++ join_by (λ p. set_right p.0 (atom_text p.1)) (32 ∷ []) (take l.j (zip l.widths (take (length l.widths) (drop l.from (viewed l.atoms)))));
  capacity : vec_capacity l.fn.into ≤ vec_capacity l.into;
}
