-- Which operands a modifier takes: the fault that they are, or none.
use Rattle.std.specs.Prelude.{ℕ, zero, suc, ℤ, pos, negsuc, int_lt, nat_le, Bool, true, false, not, ◌&&◌, List, [], ◌∷◌, length, Option, Some, None}
use Rattle.j_definitions.specs.Array.{Array, Atom, number, byte, nested}
use Rattle.j_definitions.specs.declared.Kind.{Kind}
use Rattle.j_definitions.specs.declared.Kind.TheVariants.{Number}
use Rattle.j_definitions.specs.declared.Fault.{Fault}
use Rattle.j_definitions.specs.declared.Fault.TheVariants as fault
use Rattle.j_noun.specs.declared.ranks.RankPart.{RankPart}
use Rattle.j_noun.specs.declared.ranks.RankPart.TheVariants.{Infinite}
use Rattle.j_leaves.specs.declared.modifier.Modifier.{Modifier}
use Rattle.j_leaves.specs.declared.modifier.Modifier.TheVariants as m
use Rattle.j_entity.specs.Tree.{VerbTree, OperandTree, verb, noun, rank_list}
use Rattle.j_trains.specs.Obverses.{obverse}

-- this fault unless the test holds, and else the next one
abbrev pub unless : Bool → Fault → Option Fault → Option Fault
unless true e next = next
unless false e next = Some e

-- a noun without atoms counts as each kind
abbrev pub holds_numbers : Kind → List Atom → Bool
holds_numbers Number atoms = true
holds_numbers k [] = true
holds_numbers k (a ∷ atoms) = false

abbrev pub are_numbers : Array → Bool
are_numbers n = holds_numbers n.kind n.atoms

abbrev pub is_atom : List ℕ → Bool
is_atom [] = true
is_atom (n ∷ s) = false

abbrev pub begins_negative : List Atom → Bool
begins_negative (number z ∷ atoms) = int_lt z (pos 0)
begins_negative atoms = false

-- one, two or three ranks
abbrev pub rank_count_fault : ℕ → Option Fault
rank_count_fault count = unless (nat_le 1 count && nat_le count 3) fault.Length None

-- the n of `u"n` and `m"n`: numbers, an atom or a list, of that count
abbrev pub ranks_fault : Array → Option Fault
ranks_fault n = unless (are_numbers n) fault.Domain (unless (nat_le (length n.shape) 1) fault.Rank (rank_count_fault (length n.atoms)))

-- the n of `u^:n`: numbers, an atom, not negative
abbrev pub times_fault : Array → Option Fault
times_fault n = unless (are_numbers n) fault.Domain (unless (is_atom n.shape) fault.Rank (unless (not (begins_negative n.atoms)) fault.Nonce None))

-- the n of `u^:n` where a part of it is `_`, which must be all of it
abbrev pub endless_fault : List RankPart → Option Fault
endless_fault (Infinite ∷ []) = None
endless_fault l = Some fault.Rank

-- `u"n`, `u"v` and `m"n`
abbrev pub rank_fault : OperandTree → OperandTree → Option Fault
rank_fault (verb u) (noun n) = ranks_fault n
rank_fault (verb u) (rank_list l) = rank_count_fault (length l)
rank_fault (verb u) (verb v) = None
rank_fault (noun m) (noun n) = ranks_fault n
rank_fault (noun m) (rank_list l) = rank_count_fault (length l)
rank_fault (noun m) (verb v) = Some fault.Domain
rank_fault (rank_list l) v = Some fault.Domain

-- two verbs, as in `u@v`
abbrev pub verbs_fault : OperandTree → OperandTree → Option Fault
verbs_fault (verb u) (verb v) = None
verbs_fault u v = Some fault.Domain

-- `u&v`, `m&v` and `u&n`
abbrev pub bond_fault : OperandTree → OperandTree → Option Fault
bond_fault (verb u) (verb v) = None
bond_fault (noun m) (verb v) = None
bond_fault (verb u) (noun n) = None
bond_fault u v = Some fault.Domain

-- `u^:n`, `u^:_` and `u^:v`
abbrev pub power_fault : OperandTree → OperandTree → Option Fault
power_fault (verb u) (noun n) = times_fault n
power_fault (verb u) (rank_list l) = endless_fault l
power_fault (verb u) (verb v) = None
power_fault u v = Some fault.Domain

-- `u~`, `u/`, `u\`, `u\.` and `u/.`
abbrev pub verb_fault : OperandTree → Option Fault
verb_fault (verb u) = None
verb_fault (noun m) = Some fault.Nonce
verb_fault (rank_list l) = Some fault.Domain

-- `m}`, and `u}` of a verb, which isn't formed yet
abbrev pub amend_fault : OperandTree → Option Fault
amend_fault (noun m) = None
amend_fault (verb u) = Some fault.Nonce
amend_fault (rank_list l) = Some fault.Domain

-- two verbs, of which the right one has an obverse
abbrev pub obverse_fault : Option VerbTree → Option Fault
obverse_fault (Some v) = None
obverse_fault None = Some fault.Domain

-- `u&.v`
abbrev pub under_fault : OperandTree → OperandTree → Option Fault
under_fault (verb u) (verb v) = obverse_fault (obverse v)
under_fault (verb u) (noun n) = Some fault.Domain
under_fault (verb u) (rank_list l) = Some fault.Domain
under_fault (noun m) v = Some fault.Domain
under_fault (rank_list l) v = Some fault.Domain

-- which cut a number says: 1 _1 2 _2; 0, 3 and _3 aren't there yet
abbrev pub cut_number_fault : ℤ → Option Fault
cut_number_fault (pos zero) = Some fault.Nonce
cut_number_fault (pos (suc zero)) = None
cut_number_fault (pos (suc (suc zero))) = None
cut_number_fault (pos (suc (suc (suc zero)))) = Some fault.Nonce
cut_number_fault (pos (suc (suc (suc (suc n))))) = Some fault.Domain
cut_number_fault (negsuc zero) = None
cut_number_fault (negsuc (suc zero)) = None
cut_number_fault (negsuc (suc (suc zero))) = Some fault.Nonce
cut_number_fault (negsuc (suc (suc (suc n)))) = Some fault.Domain

abbrev pub cut_atom_fault : List Atom → Option Fault
cut_atom_fault [] = Some fault.Domain
cut_atom_fault (number z ∷ atoms) = cut_number_fault z
cut_atom_fault (byte b ∷ atoms) = Some fault.Domain
cut_atom_fault (nested k s r ∷ atoms) = Some fault.Domain

-- the n of `u;.n`: an atom, a number
abbrev pub cut_noun_fault : Array → Option Fault
cut_noun_fault n = unless (is_atom n.shape) fault.Domain (cut_atom_fault n.atoms)

-- `u;.n`, and `m;.n`, which isn't formed yet
abbrev pub cut_fault : OperandTree → OperandTree → Option Fault
cut_fault (verb u) (noun n) = cut_noun_fault n
cut_fault (verb u) (verb v) = Some fault.Domain
cut_fault (verb u) (rank_list l) = Some fault.Domain
cut_fault (noun m) (noun n) = Some fault.Nonce
cut_fault (noun m) (verb v) = Some fault.Domain
cut_fault (noun m) (rank_list l) = Some fault.Domain
cut_fault (rank_list l) v = Some fault.Domain

-- A word left and right of which operands stand. Some conjunctions aren't formed yet, and an adverb is none.
abbrev pub conjunction_fault : Modifier → OperandTree → OperandTree → Option Fault
conjunction_fault m.Rank u v = rank_fault u v
conjunction_fault m.Atop u v = verbs_fault u v
conjunction_fault m.At u v = verbs_fault u v
conjunction_fault m.Bond u v = bond_fault u v
conjunction_fault m.Appose u v = verbs_fault u v
conjunction_fault m.PowerOf u v = power_fault u v
conjunction_fault m.Cut u v = cut_fault u v
conjunction_fault m.Under u v = under_fault u v
conjunction_fault m.Product u v = verbs_fault u v
conjunction_fault m.Adverse u v = Some fault.Nonce
conjunction_fault m.Monadic u v = Some fault.Nonce
conjunction_fault m.Insert u v = Some fault.Nonce
conjunction_fault m.Prefix u v = Some fault.Nonce
conjunction_fault m.Suffix u v = Some fault.Nonce
conjunction_fault m.Oblique u v = Some fault.Nonce
conjunction_fault m.Passive u v = Some fault.Nonce
conjunction_fault m.Amend u v = Some fault.Nonce

-- A word right of an operand. A conjunction is no adverb.
abbrev pub adverb_fault : Modifier → OperandTree → Option Fault
adverb_fault m.Passive u = verb_fault u
adverb_fault m.Insert u = verb_fault u
adverb_fault m.Prefix u = verb_fault u
adverb_fault m.Suffix u = verb_fault u
adverb_fault m.Oblique u = verb_fault u
adverb_fault m.Amend u = amend_fault u
adverb_fault m.Rank u = Some fault.Nonce
adverb_fault m.Atop u = Some fault.Nonce
adverb_fault m.At u = Some fault.Nonce
adverb_fault m.Bond u = Some fault.Nonce
adverb_fault m.Appose u = Some fault.Nonce
adverb_fault m.PowerOf u = Some fault.Nonce
adverb_fault m.Cut u = Some fault.Nonce
adverb_fault m.Under u = Some fault.Nonce
adverb_fault m.Product u = Some fault.Nonce
adverb_fault m.Adverse u = Some fault.Nonce
adverb_fault m.Monadic u = Some fault.Nonce
