-- `{ y`: all choices of one atom from each content.
use Rattle.std.specs.Prelude.{List, [], ◌∷◌, length, map, Option, Some, None, Result, Ok, Err}
use Rattle.std.specs.List.{flat_map}
use Rattle.j_definitions.specs.Array.{Array, Atom, opened, boxed}
use Rattle.j_definitions.specs.Limits.{limited}
use Rattle.j_definitions.specs.declared.Kind.{Kind}
use Rattle.j_definitions.specs.declared.Kind.TheVariants.{Number, Character, Boxed}
use Rattle.j_definitions.specs.declared.Fault.{Fault}
use Rattle.j_definitions.specs.declared.Fault.TheVariants.{Domain}
use Rattle.j_rank.specs.Assembly.{joined_kind}
use Rattle.j_indices.specs.Choices.{choices}
use Rattle.j_indices.specs.Numbers.{and_then}

-- the kind of an empty list of choices: characters of no characters, else numbers
abbrev pub kind_of_none : Kind → Kind
kind_of_none Number = Number
kind_of_none Character = Character
kind_of_none Boxed = Number

abbrev pub kind_or_domain : Option Kind → Result Kind Fault
kind_or_domain (Some k) = Ok k
kind_or_domain None = Err Domain

-- the kind of the choices' lists: that of all contents, where there is any choice
abbrev pub kind_chosen : Kind → List Array → List (List Atom) → Result Kind Fault
kind_chosen k [] _ = Ok (kind_of_none k)
kind_chosen k (a ∷ contents) [] = Ok a.kind
kind_chosen k (a ∷ contents) (c ∷ rest) = kind_or_domain (joined_kind (a ∷ contents))

-- each choice as a list in a box, in the contents' shapes joined
abbrev pub boxes_of_choices : List Array → List (List Atom) → Kind → Array
boxes_of_choices contents chosen k =
    record { kind = Boxed; shape = flat_map (λ a. a.shape) contents; atoms = map (λ c. boxed (record { kind = k; shape = length c ∷ []; atoms = c })) chosen }

abbrev pub catalogue_of : Kind → List Array → Result Array Fault
catalogue_of k contents =
    let chosen = choices (map (λ (a : Array). a.atoms) contents) in
    and_then (kind_chosen k contents chosen) (λ j. limited (boxes_of_choices contents chosen j))

-- `{ y`: what isn't boxed is its own content
abbrev pub catalogue : Array → Result Array Fault
catalogue y = catalogue_of y.kind (map opened y.atoms)
