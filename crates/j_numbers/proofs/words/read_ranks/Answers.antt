use Rattle.std.proofs.Common.{length, Err, ◌≤◌, sym, ap, ◌∙◌, arith}
use Rattle.j_numbers.proofs.Readings.{fault_given, read_beyond}
use Rattle.j_numbers.proofs.words.read_ranks.Goals as goal

pub returns-then-len-eq-MOST_PARTS-clause-err : goal.returns-then-len-eq-MOST_PARTS-clause-err
returns-then-len-eq-MOST_PARTS-clause-err c =
    let many : 4194304 ≤ length c.loop-part.ranks.items = omega (arith, c.len.ensures, c.if-len-eq-MOST_PARTS.true) in
    fault_given _ _ (sym c.loop-part.invariant.same ∙ read_beyond c.loop-part.ranks.items c.loop-part.rest.now c.in-Some.part.now c.in-Some.after.now c.in-Some.ensures.0 many ∙ ap Err (sym c.fault_beyond.ensures))
