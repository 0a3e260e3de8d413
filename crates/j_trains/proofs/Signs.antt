-- Bits, characters and boxes begin with no negative number, and characters and boxes say no cut.
use Rattle.std.proofs.Common.{◌≡◌, ◌≤◌, ℕ, ℤ, pos, false, Option, Some, List, [], ◌∷◌, length, get_or, map, refl, arith}
use Rattle.std.proofs.lemmas.Bool.Decides.{nat_tests}
use Rattle.j_definitions.specs.Array.{Array, number, byte, boxed}
use Rattle.j_definitions.specs.declared.Fault.{Fault}
use Rattle.j_definitions.specs.declared.Fault.TheVariants.{Domain}
use Rattle.j_trains.specs.Modifiers.{begins_negative, cut_number_fault, cut_atom_fault}

pub no_bit_negative : (bits : List ℕ) → begins_negative (map (λ b. number (pos b)) bits) ≡ false
no_bit_negative [] = refl
no_bit_negative (b ∷ bits) = grind (arith, nat_tests)

pub no_byte_negative : (bytes : List ℕ) → begins_negative (map byte bytes) ≡ false
no_byte_negative [] = refl
no_byte_negative (b ∷ bytes) = refl

pub no_box_negative : (nouns : List Array) → begins_negative (map boxed nouns) ≡ false
no_box_negative [] = refl
no_box_negative (n ∷ nouns) = refl

pub no_byte_cut : (bytes : List ℕ) → cut_atom_fault (map byte bytes) ≡ Some Domain
no_byte_cut [] = refl
no_byte_cut (b ∷ bytes) = refl

pub no_box_cut : (nouns : List Array) → cut_atom_fault (map boxed nouns) ≡ Some Domain
no_box_cut [] = refl
no_box_cut (n ∷ nouns) = refl

-- the first of some numbers says which cut
pub first_says : (f : Option Fault) (ns : List ℤ) → 1 ≤ length ns → f ≡ cut_number_fault (get_or ns 0 (pos 0)) → f ≡ cut_atom_fault (map (λ n. number n) ns)
first_says f [] l e = absurd (omega arith)
first_says f (n ∷ ns) l e = e
