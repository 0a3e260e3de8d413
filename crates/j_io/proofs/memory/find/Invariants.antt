use Rattle.std.proofs.Common.{◌≡◌, drop}
use Rattle.j_io.specs.Memory.{held_by}
use Rattle.j_io.proofs.memory.find.Given as goal

-- what is left of the texts holds the same
abbrev pub invariant-loop-key : goal.invariant-loop-key
invariant-loop-key l = held_by l.texts l.name ≡ held_by (drop l.key-index l.texts) l.name
