-- The noun of a text word.
use Rattle.std.specs.Prelude.{ℕ, ◌-◌, ◌==◌, cond, List, [], ◌∷◌, length, take, drop, map, Result}
use Rattle.j_definitions.specs.Array.{Array, byte}
use Rattle.j_definitions.specs.Limits.{limited}
use Rattle.j_definitions.specs.declared.Fault.{Fault}
use Rattle.j_definitions.specs.declared.Kind.TheVariants.{Character}

-- what stands between the quotes of a text word
abbrev pub between_quotes : List ℕ → List ℕ
between_quotes word = take (length word - 2) (drop 1 word)

-- of each doubled quote one
abbrev pub halved : List ℕ → List ℕ
halved [] = []
halved (b ∷ []) = b ∷ []
halved (b ∷ c ∷ bs) = cond (b == 39) (39 ∷ halved bs) (b ∷ halved (c ∷ bs))

-- one byte is an atom, any other text is a list
abbrev pub characters : List ℕ → Array
characters (b ∷ []) = record { kind = Character; shape = []; atoms = byte b ∷ [] }
characters bs = record { kind = Character; shape = length bs ∷ []; atoms = map byte bs }

-- the characters of a text word, or `limit error` for too many
abbrev pub text : List ℕ → Result Array Fault
text word = limited (characters (halved (between_quotes word)))
