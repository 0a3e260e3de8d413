use Rattle.std.proofs.Common.{◌≡◌, map, take}
use Rattle.j_search.specs.Packed.{place_in}
use Rattle.j_search.proofs.packed.unpacked.Given as goal

abbrev pub invariant-loop-word : goal.invariant-loop-word
invariant-loop-word l = l.places.items ≡ map place_in (take l.word-index l.words)
