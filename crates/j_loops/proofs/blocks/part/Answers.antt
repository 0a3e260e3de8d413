use Rattle.std.proofs.Common.{◌≡◌, ◌+◌, ◌*◌, ◌≤◌, ◌∙◌, ap, sym, arith, length, get_or}
use Rattle.j_loops.proofs.Filling.{row_of}
use Rattle.j_loops.proofs.blocks.part.Goals as goal

pub returns-else-times-eq1-clause-same : goal.returns-else-times-eq1-clause-same
returns-else-times-eq1-clause-same g c = λ k a h.
    let one : length c.args.x.now ≡ 1 = c.requires.alone c.if-times-eq1.false in
    let within : c.args.start + c.args.len ≤ 1 * c.args.times = rw one at c.requires.within in
    ap (λ j. get_or c.args.x.now j a)
    (sym (row_of 0 c.args.len k 0 (omega arith) (omega arith) (omega arith)) ∙ row_of 0 c.args.times (c.args.start + k) 0 (omega arith) (omega arith) (omega arith))
