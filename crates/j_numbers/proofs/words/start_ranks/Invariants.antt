use Rattle.std.proofs.Common.{◌≡◌, map, take}
use Rattle.j_noun.specs.declared.ranks.RankPart.TheVariants.{Number}
use Rattle.j_numbers.proofs.words.start_ranks.Given as goal

abbrev pub invariant-loop-n : goal.invariant-loop-n
invariant-loop-n l = l.ranks.items ≡ map Number (take l.n-index l.numbers)
