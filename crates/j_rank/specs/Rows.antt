-- Nouns and ranks, for the rows worked out by hand.
use Rattle.std.specs.Prelude.{ℕ, pos, negsuc, ◌-◌, List, map}
use Rattle.j_definitions.specs.Array.{Array, number, byte, boxed}
use Rattle.j_definitions.specs.declared.Kind.TheVariants.{Number as NumberKind, Character, Boxed}
use Rattle.j_noun.specs.declared.ranks.Rank.{Rank}
use Rattle.j_noun.specs.declared.ranks.Rank.TheVariants.{Number}

abbrev pub numbers_in : List ℕ → List ℕ → Array
numbers_in s ns = record { kind = NumberKind; shape = s; atoms = map (λ n. number (pos n)) ns }

abbrev pub bytes_in : List ℕ → List ℕ → Array
bytes_in s bs = record { kind = Character; shape = s; atoms = map (λ b. byte b) bs }

abbrev pub boxes_in : List ℕ → List Array → Array
boxes_in s nouns = record { kind = Boxed; shape = s; atoms = map boxed nouns }

-- the rank n, and the rank _n
abbrev pub rank : ℕ → Rank
rank n = Number (pos n)

abbrev pub minus_rank : ℕ → Rank
minus_rank n = Number (negsuc (n - 1))
