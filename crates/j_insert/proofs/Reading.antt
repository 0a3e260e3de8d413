-- The numbers of nouns, as they are read.
use Rattle.std.proofs.Common.{◌≡◌, ◌<◌, ℕ, ℤ, pos, List, [], ◌∷◌, length, map, refl, sym, ap, ◌∙◌, arith, Result, Ok, Err}
use Rattle.j_definitions.specs.Array.{Array, Atom, number, byte, boxed}
use Rattle.j_definitions.specs.Cells.{in_order, with_first}
use Rattle.j_definitions.specs.declared.Fault.{Fault}
use Rattle.j_definitions.specs.declared.Fault.TheVariants.{Domain}
use Rattle.j_insert.specs.Bases.{number_of, numbers_of}

all_numbers : (zs : List ℤ) → in_order (map number_of (map number zs)) ≡ Ok zs
all_numbers [] = refl
all_numbers (z ∷ zs) = ap (with_first z) (all_numbers zs)

all_bits : (bs : List ℕ) → in_order (map number_of (map (λ b. number (pos b)) bs)) ≡ Ok (map pos bs)
all_bits [] = refl
all_bits (b ∷ bs) = ap (with_first (pos b)) (all_bits bs)

no_bytes : (bs : List ℕ) → 0 < length bs → in_order (map number_of (map byte bs)) ≡ Err Domain
no_bytes [] h = absurd (omega arith)
no_bytes (b ∷ bs) h = refl

no_boxes : (ys : List Array) → 0 < length ys → in_order (map number_of (map boxed ys)) ≡ Err Domain
no_boxes [] h = absurd (omega arith)
no_boxes (y ∷ ys) h = refl

seen : (y : Array) (xs : List Atom) (r : Result (List ℤ) Fault) → xs ≡ y.atoms → in_order (map number_of xs) ≡ r → numbers_of y ≡ r
seen y xs r e h = sym (ap (λ (ws : List Atom). in_order (map number_of ws)) e) ∙ h

pub numbers_seen : (y : Array) (zs : List ℤ) → map number zs ≡ y.atoms → numbers_of y ≡ Ok zs
numbers_seen y zs e = seen y (map number zs) (Ok zs) e (all_numbers zs)

pub bits_seen : (y : Array) (bs : List ℕ) → map (λ b. number (pos b)) bs ≡ y.atoms → numbers_of y ≡ Ok (map pos bs)
bits_seen y bs e = seen y (map (λ b. number (pos b)) bs) (Ok (map pos bs)) e (all_bits bs)

pub bytes_seen : (y : Array) (bs : List ℕ) → 0 < length bs → map byte bs ≡ y.atoms → numbers_of y ≡ Err Domain
bytes_seen y bs h e = seen y (map byte bs) (Err Domain) e (no_bytes bs h)

pub boxes_seen : (y : Array) (ys : List Array) → 0 < length ys → map boxed ys ≡ y.atoms → numbers_of y ≡ Err Domain
boxes_seen y ys h e = seen y (map boxed ys) (Err Domain) e (no_boxes ys h)
