-- What follows of nouns that are brought to a shape.
use Rattle.std.proofs.Common.{◌≡◌, ◌<◌, ◌+◌, ℕ, pos, map, List, [], ◌∷◌, ◌++◌, length, replicate, get_or, arith, refl, sym, ap, ◌∙◌, subst, append-nil, Err}
use Rattle.std.specs.List.{All}
use Rattle.std.proofs.lemmas.List.{nil_from_length, length-replicate, length-append, map-append}
use Rattle.std.proofs.lemmas.List.Elements.{All-nil, All-head, All-append, All-replicate}
use Rattle.j_definitions.specs.Array.{Array, Atom, number, product, fill_atom, IsNoun}
use Rattle.j_definitions.specs.Limits.{limited}
use Rattle.j_definitions.specs.declared.Kind.{Kind}
use Rattle.j_definitions.specs.declared.Kind.TheVariants.{Number}
use Rattle.j_definitions.specs.declared.Fault.TheVariants.{Limit}
use Rattle.j_definitions.proofs.Limits.{many_beyond}
use Rattle.j_noun.specs.declared.noun.Atoms.{Atoms}
use Rattle.j_noun.specs.Held.{AreAtoms, array_kept, atoms_kept, kind_kept}
use Rattle.j_rank.specs.Assembly.{with_rank, padded}
use Rattle.j_rank.specs.Joined.{AreBitsOf}
use Rattle.j_rank.proofs.Bits.{All-padded}
use Rattle.j_rank.proofs.Made.{fills_map}
use Rattle.j_rank.proofs.Paddings.{length-padded, map-padded}
use Rattle.j_rank.proofs.Widest.{product-with_rank}
use Rattle.j_joining.specs.Joining.{repeated}
use Rattle.j_joining.specs.Brought.{brought, Fits, IsGroup, group_atoms, groups}

pub map-repeated : {X Y : Type 0} (f : X → Y) (n : ℕ) (xs : List X) → map f (repeated n xs) ≡ repeated n (map f xs)
map-repeated f n [] = refl
map-repeated f n (x ∷ xs) = fills_map f x n

pub length-repeated : {X : Type 0} (n : ℕ) (xs : List X) → 0 < length xs → length (repeated n xs) ≡ n
length-repeated n [] h = absurd (omega arith)
length-repeated n (x ∷ xs) h = length-replicate n x

pub map-brought : {X Y : Type 0} (f : X → Y) (z : X) (t s : List ℕ) (xs : List X) → map f (brought z t s xs) ≡ brought (f z) t s (map f xs)
map-brought f z t [] xs = map-repeated f (product t) xs
map-brought f z t (n ∷ s) xs = map-padded f z (with_rank (length t) (n ∷ s)) t xs

-- as many elements as the shape says
pub length-brought : {X : Type 0} (z : X) (t s : List ℕ) (xs : List X) → Fits t s → length xs ≡ product s → length (brought z t s xs) ≡ product t
length-brought z t [] xs fits e = length-repeated (product t) xs (omega (arith, e))
length-brought z t (n ∷ s) xs fits e = length-padded z (with_rank (length t) (n ∷ s)) t xs fits (e ∙ sym (product-with_rank (length t) (n ∷ s)))

-- an atom is repeated
pub atom_brought : {X : Type 0} (z d : X) (t s : List ℕ) (xs out new : List X) (size : ℕ) → s ≡ [] → length xs ≡ product s → d ≡ get_or xs 0 d → size ≡ product t →
    new ≡ out ++ replicate size d → new ≡ out ++ brought z t s xs
atom_brought z d t [] [] out new size none many is e more = absurd (omega (arith, many))
atom_brought z d t [] (x ∷ xs) out new size none many is e more = more ∙ ap (λ n. out ++ replicate n d) e ∙ ap (λ w. out ++ replicate (product t) w) is
atom_brought z d t (n ∷ s) xs out new size none many is e more = cc

-- any other noun is padded
pub others_brought : {X : Type 0} (z : X) (t s : List ℕ) (xs out new : List X) → 0 < length s → new ≡ out ++ padded z (with_rank (length t) s) t xs → new ≡ out ++ brought z t s xs
others_brought z t [] xs out new some more = absurd (omega arith)
others_brought z t (n ∷ s) xs out new some more = more

-- the atoms of what was appended
pub group_appended : {X : Type 0} (f : X → Atom) (z : X) (t axes shape : List ℕ) (run out new : List X) (xs : List Atom) → axes ≡ shape → map f run ≡ xs →
    new ≡ out ++ brought z t axes run → map f new ≡ map f out ++ brought (f z) t shape xs
group_appended f z t axes shape run out new xs same e more =
    ap (map f) more ∙ map-append f out (brought z t axes run)
    ∙ ap (λ r. map f out ++ r) (map-brought f z t axes run ∙ ap (brought (f z) t axes) e ∙ ap (λ s. brought (f z) t s xs) same)

-- nothing is appended of a shape without atoms
pub nothing_brought : (k : Kind) (a : Array) (t : List ℕ) (out : List Atom) → IsGroup k a t → IsNoun a → 0 ≡ product t → out ≡ out ++ group_atoms k a t
nothing_brought k a t out g noun none =
    sym (ap (λ r. out ++ r) (nil_from_length (group_atoms k a t) (length-brought (fill_atom k) t a.shape a.atoms g.fits noun.as_many ∙ sym none)) ∙ append-nil out)

All-repeated : (P : ℕ → Type 0) (n : ℕ) (xs : List ℕ) → All P xs → All P (repeated n xs)
All-repeated P n [] h = All-nil P
All-repeated P n (x ∷ xs) h = All-replicate P n x (All-head P x xs h)

All-brought : (P : ℕ → Type 0) (z : ℕ) (t s : List ℕ) (xs : List ℕ) → P z → All P xs → All P (brought z t s xs)
All-brought P z t [] xs g h = All-repeated P (product t) xs h
All-brought P z t (n ∷ s) xs g h = All-padded P z (with_rank (length t) (n ∷ s)) t xs g h

-- the bits of what was appended
pub bits_appended : (t axes shape : List ℕ) (run out new : List ℕ) (xs ys : List Atom) → axes ≡ shape → AreBitsOf ys run → AreBitsOf xs out →
    new ≡ out ++ brought 0 t axes run → AreBitsOf (xs ++ brought (fill_atom Number) t shape ys) new
bits_appended t axes shape run out new xs ys same bits before more = record {
  atoms =
      group_appended (λ b. number (pos b)) 0 t axes shape run out new ys same bits.atoms more
      ∙ ap (λ r. r ++ brought (fill_atom Number) t shape ys) before.atoms;
  low =
      subst (All (λ b. b < 2)) (sym more)
      (All-append (λ b. b < 2) out (brought 0 t axes run) before.low (All-brought (λ b. b < 2) 0 t axes run (omega arith) bits.low));
}

-- no bits are appended of a shape without atoms
pub no_bits_brought : (a : Array) (t out : List ℕ) (xs : List Atom) → IsGroup Number a t → IsNoun a → 0 ≡ product t → AreBitsOf xs out → AreBitsOf (xs ++ group_atoms Number a t) out
no_bits_brought a t out xs g noun none bits = subst (λ (r : List Atom). AreBitsOf r out) (nothing_brought Number a t xs g noun none) bits

pub length-groups : (k : Kind) (shape : List ℕ) (x : Array) (s : List ℕ) (y : Array) (t : List ℕ) → IsGroup k x s → IsNoun x → IsGroup k y t → IsNoun y →
    length (groups k shape x s y t).atoms ≡ product s + product t
length-groups k shape x s y t g noun h other =
    omega (
      arith,
      length-append (group_atoms k x s) (group_atoms k y t),
      length-brought (fill_atom k) s x.shape x.atoms g.fits noun.as_many,
      length-brought (fill_atom k) t y.shape y.atoms h.fits other.as_many,
    )

pub groups_beyond : (k : Kind) (shape : List ℕ) (x : Array) (s : List ℕ) (y : Array) (t : List ℕ) → IsGroup k x s → IsNoun x → IsGroup k y t → IsNoun y →
    4194304 < product s + product t → limited (groups k shape x s y t) ≡ Err Limit
groups_beyond k shape x s y t g noun h other many = many_beyond (groups k shape x s y t) (omega (arith, length-groups k shape x s y t g noun h other))

pub kept_is : (k : Kind) (shape : List ℕ) (a : Atoms) (xs : List Atom) → AreAtoms a k xs → array_kept shape a ≡ record { kind = k; shape = shape; atoms = xs }
kept_is k shape a xs are =
    let atoms : atoms_kept a ≡ xs = are.atoms in
    let kind : kind_kept a ≡ k = are.kind in
    cc

pub no_bits : (out : List ℕ) → out ≡ [] → AreBitsOf [] out
no_bits [] e = record { atoms = refl; low = All-nil (λ b. b < 2) }
no_bits (b ∷ out) e = cc
