use Rattle.std.proofs.Common.{◌≡◌, map, take}
use Rattle.j_definitions.specs.Array.{byte, opened}
use Rattle.j_select.proofs.reaching.character_nouns.Given as goal

abbrev pub invariant-loop-b : goal.invariant-loop-b
invariant-loop-b l = l.nouns.items ≡ map opened (map byte (take l.b-index l.bytes))
