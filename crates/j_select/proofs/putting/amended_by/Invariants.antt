use Rattle.std.proofs.Common.{◌≡◌, take}
use Rattle.j_select.specs.Amending.{amended_from}
use Rattle.j_select.proofs.putting.amended_by.Given as goal

abbrev pub invariant-loop-k : goal.invariant-loop-k
invariant-loop-k g l = l.out.items ≡ amended_from 1 l.elements (take l.k l.places) l.initial.out.items
