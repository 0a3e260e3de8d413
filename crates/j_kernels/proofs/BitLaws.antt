-- Verbs on bits.
use Rattle.std.proofs.Common.{◌≡◌, ◌<◌, ◌%◌, ℕ, pos, List, [], ◌∷◌, map, refl, sym, ap₂, arith, Result}
use Rattle.std.specs.List.{All}
use Rattle.std.proofs.lemmas.List.Elements.{All-head, All-tail}
use Rattle.j_definitions.specs.Array.{Atom, number}
use Rattle.j_definitions.specs.declared.Fault.{Fault}
use Rattle.j_noun.specs.declared.noun.Atoms.{Atoms}
use Rattle.j_noun.specs.declared.refusal.Refusal.{Refusal}
use Rattle.j_loops.specs.Results.{outcome, IsFilled}

abbrev pub bit_atom : ℕ → Atom
bit_atom b = number (pos b)

same_bits : (xs : List ℕ) → All (λ b. b < 2) xs → map (λ b. bit_atom (b % 2)) xs ≡ map bit_atom xs
same_bits [] h = refl
same_bits (x ∷ xs) h =
    let below : x < 2 = All-head (λ b. b < 2) x xs h in
    let same : x % 2 ≡ x = omega arith in
    ap₂ (λ a q. bit_atom a ∷ q) same (same_bits xs (All-tail (λ b. b < 2) x xs h))

-- the last digits of bits are the bits
pub filled_bits_again : (f : Atom → Atom → Result Atom Fault) (l r n : ℕ) (xs ys : List ℕ) (a : Result Atoms Refusal) → All (λ b. b < 2) xs → All (λ b. b < 2) ys →
    IsFilled (outcome f l r (map (λ b. bit_atom (b % 2)) xs) (map (λ b. bit_atom (b % 2)) ys) n) a → IsFilled (outcome f l r (map bit_atom xs) (map bit_atom ys) n) a
filled_bits_again f l r n xs ys a hx hy is = rw (sym (same_bits xs hx), sym (same_bits ys hy)) is
