use Rattle.std.proofs.Common.{◌≡◌, take}
use Rattle.std.specs.List.{flat_map}
use Rattle.j_search.specs.Packed.{place_in}
use Rattle.j_search.specs.Sought.{run}
use Rattle.j_search.proofs.sorting.sorted_numbers.Given as goal

abbrev pub invariant-loop-word : goal.invariant-loop-word
invariant-loop-word l = l.numbers.items ≡ flat_map (λ w. run 1 l.items (place_in w)) (take l.word-index l.word-items)
