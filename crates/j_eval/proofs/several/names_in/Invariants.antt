use Rattle.std.proofs.Common.{◌≡◌, ◌++◌, length, option_map}
use Rattle.j_numbers.specs.Numbers.{parts}
use Rattle.j_eval.specs.Several.{names_of}
use Rattle.j_eval.proofs.several.names_in.Given as goal

abbrev pub invariant-loop-part : goal.invariant-loop-part
invariant-loop-part l = names_of (parts l.text) ≡ option_map (λ ns. l.names.items ++ ns) (names_of (parts l.rest))

abbrev pub decreases-loop-part : goal.decreases-loop-part
decreases-loop-part l = length l.rest
