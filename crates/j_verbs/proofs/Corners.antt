-- Where the law stops.
use Rattle.std.proofs.Common.{◌≡◌, ◌+◌, pos, [], ◌∷◌, refl, None, Result, Ok, true, nat_lt}
use Rattle.j_definitions.specs.Array.{Array, Atom, number, byte, atom_array}
use Rattle.j_kernels.specs.Scalars.{scalar_monad}
use Rattle.j_definitions.specs.declared.Kind.{Kind}
use Rattle.j_definitions.specs.declared.Kind.TheVariants.{Number, Character}
use Rattle.j_definitions.specs.declared.Fault.{Fault}
use Rattle.j_definitions.specs.declared.Fault.TheVariants.{Domain}
use Rattle.j_entity.specs.Ranks.{same, of}
use Rattle.j_verbs.specs.ByRank.{Doing, by_ranks}
use Rattle.j_verbs.specs.State.{State, Gave, pure, fail, counted, or_fault}

abbrev empty_of : Kind → Array
empty_of k = record { kind = k; shape = 0 ∷ []; atoms = [] }

abbrev letter : Atom → Result Atom Fault
letter a = Ok (byte 65)

abbrev to_letter : Doing
to_letter x y = pure (atom_array Character (byte 65))

-- a pure meaning that gives characters: the rule keeps their kind, and the definition says numbers
letters_by_cells : (s : State) → by_ranks (same (of 0)) to_letter None (empty_of Number) s ≡ Gave (empty_of Character) s
unfolding by_ranks
letters_by_cells s = refl

letters_whole : (s : State) → or_fault (scalar_monad letter (empty_of Number)) s ≡ Gave (empty_of Number) s
letters_whole s = refl

-- a meaning that faults on fills
faults_on_fills : (s : State) → by_ranks (same (of 0)) (λ x y. fail Domain) None (empty_of Character) s ≡ Gave (empty_of Number) s
unfolding by_ranks
faults_on_fills s = refl

-- a counted meaning takes a step where there are no cells
abbrev counted_zero : Doing
counted_zero x y = counted (pure (atom_array Number (number (pos 0))))

counts_on_fills : (s : State) → nat_lt s.steps s.budget ≡ true → by_ranks (same (of 0)) counted_zero None (empty_of Number) s ≡ Gave (empty_of Number) (record s { steps = s.steps + 1 })
unfolding by_ranks
counts_on_fills s h = rw h refl
