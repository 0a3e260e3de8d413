-- Lemmas on matching.
use Rattle.std.proofs.Common.{◌≡◌, refl, ℕ, ℤ, ◌==◌, ◌&&◌, ◌∙◌, List, length, map, pos, negsuc, true, ap}
use Rattle.std.specs.Ordering.{int_eq}
use Rattle.std.specs.Cmp.Lexicographic.{pointwise}
use Rattle.std.proofs.lemmas.Bool.Decides.{Decides-int_eq, Decides-eqb, same_from_decides}
use Rattle.std.proofs.lemmas.Cmp.{int_eq_equiv}
use Rattle.j_definitions.specs.Array.{Array, Atom, number, byte, boxed, atom_match, arrays_match}
use Rattle.j_definitions.proofs.Laws.{maps_match, unlike_match, boxed_match, pointwise_flip}
use Rattle.j_noun.specs.Viewed.{match_bit}

abbrev bit : ℕ → Atom
bit b = number (pos b)

pub wholes_wholes : (xs ys : List ℤ) → pointwise atom_match (map number xs) (map number ys) ≡ pointwise int_eq xs ys
wholes_wholes xs ys = maps_match number number int_eq (λ _ _. refl) xs ys

pub wholes_bits : (xs : List ℤ) (ys : List ℕ) → pointwise atom_match (map number xs) (map (λ b. number (pos b)) ys) ≡ pointwise match_bit xs ys
wholes_bits xs ys = maps_match number bit match_bit (λ _ _. refl) xs ys

pub bits_wholes : (xs : List ℕ) (ys : List ℤ) → pointwise atom_match (map (λ b. number (pos b)) xs) (map number ys) ≡ pointwise match_bit ys xs
bits_wholes xs ys = maps_match bit number (λ b z. match_bit z b) (λ b z. int_eq_equiv.symm (pos b) z) xs ys ∙ pointwise_flip match_bit ys xs

abbrev of_pos : ℤ → ℕ
of_pos (pos n) = n
of_pos (negsuc n) = 0

same_pos : (a b : ℕ) → int_eq (pos a) (pos b) ≡ (a == b)
same_pos a b = same_from_decides (int_eq (pos a) (pos b)) (a == b) (Decides-int_eq (pos a) (pos b)) ((λ e. ap pos ((Decides-eqb a b).0 e)), (λ p. (Decides-eqb a b).1 (ap of_pos p)))

pub bits_bits : (xs ys : List ℕ) → pointwise atom_match (map (λ b. number (pos b)) xs) (map (λ b. number (pos b)) ys) ≡ pointwise ◌==◌ xs ys
bits_bits xs ys = maps_match bit bit ◌==◌ same_pos xs ys

pub bytes_bytes : (xs ys : List ℕ) → pointwise atom_match (map byte xs) (map byte ys) ≡ pointwise ◌==◌ xs ys
bytes_bytes xs ys = maps_match byte byte ◌==◌ (λ _ _. refl) xs ys

pub boxes_boxes : (xs ys : List Array) → pointwise atom_match (map boxed xs) (map boxed ys) ≡ pointwise arrays_match xs ys
boxes_boxes xs ys = maps_match boxed boxed arrays_match boxed_match xs ys

pub wholes_bytes : (xs : List ℤ) (ys : List ℕ) → pointwise atom_match (map number xs) (map byte ys) ≡ ((length xs == 0) && (length ys == 0))
wholes_bytes xs ys = unlike_match number byte (λ _ _. refl) xs ys

pub wholes_boxes : (xs : List ℤ) (ys : List Array) → pointwise atom_match (map number xs) (map boxed ys) ≡ ((length xs == 0) && (length ys == 0))
wholes_boxes xs ys = unlike_match number boxed (λ _ _. refl) xs ys

pub bits_bytes : (xs ys : List ℕ) → pointwise atom_match (map (λ b. number (pos b)) xs) (map byte ys) ≡ ((length xs == 0) && (length ys == 0))
bits_bytes xs ys = unlike_match bit byte (λ _ _. refl) xs ys

pub bits_boxes : (xs : List ℕ) (ys : List Array) → pointwise atom_match (map (λ b. number (pos b)) xs) (map boxed ys) ≡ ((length xs == 0) && (length ys == 0))
bits_boxes xs ys = unlike_match bit boxed (λ _ _. refl) xs ys

pub bytes_wholes : (xs : List ℕ) (ys : List ℤ) → pointwise atom_match (map byte xs) (map number ys) ≡ ((length xs == 0) && (length ys == 0))
bytes_wholes xs ys = unlike_match byte number (λ _ _. refl) xs ys

pub bytes_bits : (xs ys : List ℕ) → pointwise atom_match (map byte xs) (map (λ b. number (pos b)) ys) ≡ ((length xs == 0) && (length ys == 0))
bytes_bits xs ys = unlike_match byte bit (λ _ _. refl) xs ys

pub bytes_boxes : (xs : List ℕ) (ys : List Array) → pointwise atom_match (map byte xs) (map boxed ys) ≡ ((length xs == 0) && (length ys == 0))
bytes_boxes xs ys = unlike_match byte boxed (λ _ _. refl) xs ys

pub boxes_wholes : (xs : List Array) (ys : List ℤ) → pointwise atom_match (map boxed xs) (map number ys) ≡ ((length xs == 0) && (length ys == 0))
boxes_wholes xs ys = unlike_match boxed number (λ _ _. refl) xs ys

pub boxes_bits : (xs : List Array) (ys : List ℕ) → pointwise atom_match (map boxed xs) (map (λ b. number (pos b)) ys) ≡ ((length xs == 0) && (length ys == 0))
boxes_bits xs ys = unlike_match boxed bit (λ _ _. refl) xs ys

pub boxes_bytes : (xs : List Array) (ys : List ℕ) → pointwise atom_match (map boxed xs) (map byte ys) ≡ ((length xs == 0) && (length ys == 0))
boxes_bytes xs ys = unlike_match boxed byte (λ _ _. refl) xs ys

-- two nouns of boxes, of one shape
pub boxes_arrays : (a b : Array) (x y : List Array) → map boxed x ≡ a.atoms → map boxed y ≡ b.atoms → pointwise ◌==◌ a.shape b.shape ≡ true →
    arrays_match a b ≡ pointwise arrays_match x y
boxes_arrays a b x y e f h = rw (h, ← e, ← f) (boxes_boxes x y)

pub ruleset view_rules = (wholes_wholes, wholes_bits, bits_wholes, bits_bits, bytes_bytes, boxes_boxes, wholes_bytes, wholes_boxes, bits_bytes, bits_boxes, bytes_wholes, bytes_bits, bytes_boxes, boxes_wholes, boxes_bits, boxes_bytes)
