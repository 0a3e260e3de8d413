use Rattle.std.proofs.Common.{◌∙◌, ap, take, arith}
use Rattle.j_loops.proofs.Filling.{slice_appended, results_at}
use Rattle.j_loops.proofs.blocks.append_block.Goals as goal

pub returns-clause-results : goal.returns-clause-results
returns-clause-results g c = λ h.
    slice_appended g.O.Op.left_atom g.O.Op.right_atom g.Z.Stored.atom g.Z.Stored.IsKept g.O.Op.meaning c.args.left c.args.right c.part-l.result.1 c.part-r.result.1 c.args.x.now c.args.y.now
    c.args.out.now.items c.part-l.result.0.now c.part-r.result.0.now c.resize.new.self.items c.fill_from.new.out _ c.len-start.result c.args.end c.resize.new.self.len
    c.in-Ok.ensures.items (omega (arith, c.args.out.now.ok)) (omega arith) (omega (arith, c.in-Ok.ensures.len, c.resize.new.self.ok)) (omega (arith, c.in-Ok.ensures.len, c.resize.new.self.ok)) (omega (arith, c.in-Ok.ensures.len)) (c.fill_from.ensures.front ∙ ap (take c.len-start.result) c.as_mut_slice.ensures.value)
    c.part-l.ensures.same c.part-r.ensures.same (c.fill_from.ensures.results (cc)) (results_at _ _ _ _ _ _ _ _ _ _ _ _ (omega arith) c.requires.before)
