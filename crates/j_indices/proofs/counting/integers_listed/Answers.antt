use Rattle.std.proofs.Common.{◌≡◌, [], map, rules}
use Rattle.j_indices.specs.Counting.{integers_from}
use Rattle.j_indices.proofs.Chosen.{integers_nothing}
use Rattle.j_indices.proofs.counting.integers_listed.Goals as goal

pub returns-then-size-eq0 : goal.returns-then-size-eq0
returns-then-size-eq0 g c =
    let none : c.in_ok-out.out.items ≡ [] = search rules in
    let nothing : integers_from 0 (map g.N.Whole.value c.args.lengths.now) ≡ [] = integers_nothing (map g.N.Whole.value c.args.lengths.now) c.args.size c.requires.size c.if-size-eq0.true in cc
