use Rattle.std.proofs.Common.{arith, ap, ◌∙◌, sym, length, ◌++◌}
use Rattle.j_noun.specs.Viewed.{viewed, kind_viewed}
use Rattle.j_display.proofs.LineRows.{characters_at}
use Rattle.j_display.proofs.lines.append_row.Goals as goal

pub append-requires : goal.append-requires
append-requires c =
    let row = characters_at c.args.lines c.args.k c.in-Bytes.bytes.now (ap kind_viewed c.in-Bytes.is) (ap viewed c.in-Bytes.is) in
    let size = ap length row in
    record { room = omega arith }

pub returns-in-Bytes-clause-items : goal.returns-in-Bytes-clause-items
returns-in-Bytes-clause-items c =
    let row = characters_at c.args.lines c.args.k c.in-Bytes.bytes.now (ap kind_viewed c.in-Bytes.is) (ap viewed c.in-Bytes.is) in
    c.append.ensures.items ∙ ap (λ r. c.args.into.now.items ++ r) (sym row)
