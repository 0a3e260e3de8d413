-- The words that are nouns.
use Rattle.std.specs.Prelude.{ℕ, cond, List, [], ◌∷◌, map, codes, bytes_eq, Option, Some, None}
use Rattle.std.specs.List.{range_with_len}
use Rattle.j_definitions.specs.Array.{Array, byte, atom_array, fill_atom}
use Rattle.j_definitions.specs.declared.Kind.TheVariants.{Character, Boxed}

-- `a.`: all characters in order
unfoldable pub alphabet : Array
alphabet = record { kind = Character; shape = 256 ∷ []; atoms = map byte (range_with_len 0 256) }

-- `a:`: the box that fills
abbrev pub ace : Array
ace = atom_array Boxed (fill_atom Boxed)

abbrev pub noun_word : List ℕ → Option Array
noun_word bytes = cond (bytes_eq bytes (codes "a.")) (Some alphabet) (cond (bytes_eq bytes (codes "a:")) (Some ace) None)
