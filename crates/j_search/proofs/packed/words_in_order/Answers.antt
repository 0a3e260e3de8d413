use Rattle.std.proofs.Common.{length}
use Rattle.std.proofs.lemmas.List.Sorted.{All-permutation}
use Rattle.j_search.specs.Packed.{IsPacked}
use Rattle.j_search.proofs.Packing.{packed_in_order}
use Rattle.j_search.proofs.packed.words_in_order.Goals as goal

pub returns-clause-order : goal.returns-clause-order
returns-clause-order g c =
    packed_in_order g.T.Ord.cmp g.T.Numbered.number g.met.T.Numbered.by_order c.args.range c.args.direction (length c.args.items.now) c.args.items.now c.in_ok-words.words.items c.sorted.result.items c.in_ok-words.ensures.places
    c.in_ok-words.ensures.words c.sorted.ensures.permutation c.sorted.ensures.sorted

pub returns-clause-words : goal.returns-clause-words
returns-clause-words g c =
    All-permutation (IsPacked g.T.Numbered.number c.args.direction c.args.range c.args.items.now) c.in_ok-words.words.items c.sorted.result.items c.sorted.ensures.permutation c.in_ok-words.ensures.words
