-- Lists of choices, and their kind.
use Rattle.std.specs.Prelude.{List, [], ◌∷◌, length, Result, Ok}
use Rattle.j_definitions.specs.Array.{Array, Atom}
use Rattle.j_definitions.specs.declared.Kind.{Kind}
use Rattle.j_definitions.specs.declared.Fault.{Fault}
use Rattle.j_rank.specs.Assembly.{joined_kind}
use Rattle.j_select.specs.Catalogue.{kind_of_none, kind_or_domain}

-- the list of these atoms
abbrev pub listed : Kind → List Atom → Array
listed k atoms = record { kind = k; shape = length atoms ∷ []; atoms = atoms }

-- the kind of the lists, where there are choices
abbrev pub kind_of_some : Kind → List Array → Result Kind Fault
kind_of_some k [] = Ok (kind_of_none k)
kind_of_some k (a ∷ contents) = kind_or_domain (joined_kind (a ∷ contents))
