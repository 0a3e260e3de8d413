-- Which parts are infinite.
use Rattle.std.specs.Prelude.{Bool, true, false}
use Rattle.j_noun.specs.declared.ranks.RankPart.{RankPart}
use Rattle.j_noun.specs.declared.ranks.RankPart.TheVariants.{Number, Infinite}

abbrev pub is_infinite : RankPart → Bool
is_infinite (Number z) = false
is_infinite Infinite = true
