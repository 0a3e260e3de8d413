use Rattle.std.proofs.Common.{arith}
use Rattle.j_cuts_key.proofs.Diagonals.{line_more, within_more, line_found}
use Rattle.j_cuts_key.proofs.line_places.line.Goals as goal

pub loop-row-preserved : goal.loop-row-preserved
loop-row-preserved c = record {
  places =
      line_more c.args.columns c.args.n c.saturating_sub-first.result c.loop-row.row c.loop-row.places.items c.push.new.self.items (omega arith) c.loop-row.invariant.places c.in-Ok.ensures.items;
  within =
      within_more c.args.rows c.args.columns c.args.n c.loop-row.row c.loop-row.places.items c.push.new.self.items c.requires.place (omega arith) (omega arith) (omega arith) c.loop-row.invariant.within
      c.in-Ok.ensures.items;
}

pub returns-clause-places : goal.returns-clause-places
returns-clause-places c =
    line_found c.args.rows c.args.columns c.args.n c.saturating_sub-first.result c.min-end.result c.loop-row.row c.loop-row.places.items c.requires.place (omega arith) (omega arith) (omega arith) c.loop-row.auto.row-end
    c.loop-row.invariant.places
