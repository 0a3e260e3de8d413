use Rattle.std.proofs.Common.{arith, ℕ, List, ◌≡◌, ◌+◌, ◌*◌, ◌++◌, length, ap, ◌∙◌, sym, append_assoc}
use Rattle.std.specs.List.{flat_map, range_with_len}
use Rattle.std.proofs.lemmas.List.{length-append}
use Rattle.std.proofs.Math.Nat.{add-mul}
use Rattle.j_display.specs.Lines.{row_at}
use Rattle.j_display.proofs.Formats.{flat_push}
use Rattle.j_display.proofs.formatting.append_rows.Goals as goal

pub loop-k-preserved : goal.loop-k-preserved
loop-k-preserved c =
    let row : List ℕ = row_at c.args.lines c.loop-k.k in
    let size : length row ≡ c.args.size = c.requires.size c.loop-k.k c.loop-k-test.true in
    let more : (c.loop-k.k + 1) * c.args.size ≡ c.loop-k.k * c.args.size + 1 * c.args.size = add-mul c.loop-k.k 1 c.args.size in
    let grown : length c.append_row.new.into.items ≡ length c.loop-k.into.items + length row = ap length c.append_row.ensures.items ∙ length-append c.loop-k.into.items row in
    record {
      items =
          c.append_row.ensures.items ∙ ap (λ r. r ++ row) c.loop-k.invariant.items ∙ append_assoc c.args.into.now.items (flat_map (row_at c.args.lines) (range_with_len 0 c.loop-k.k)) row
          ∙ ap (λ t. c.args.into.now.items ++ t) (sym (flat_push (row_at c.args.lines) c.loop-k.k));
      size = omega arith;
      capacity = omega arith;
    }
