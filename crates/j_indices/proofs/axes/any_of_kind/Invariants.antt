use Rattle.std.proofs.Common.{◌≡◌, false, take}
use Rattle.std.specs.List.{list_any}
use Rattle.j_indices.specs.Indexing.{is_of}
use Rattle.j_indices.proofs.axes.any_of_kind.Given as goal

abbrev pub invariant-loop-noun : goal.invariant-loop-noun
invariant-loop-noun l = list_any (λ a. list_any (is_of l.kind) a.atoms) (take l.noun-index l.nouns) ≡ false
