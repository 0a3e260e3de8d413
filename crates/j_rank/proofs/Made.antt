-- Nouns of fills that are made, and answers by another name.
use Rattle.std.proofs.Common.{◌≡◌, ◌<◌, ℕ, List, ◌∷◌, length, map, drop, replicate, arith, refl, sym, ap, ◌∙◌, subst, Result, Err}
use Prim.Native.Nat.{zero, suc}
use Rattle.std.specs.List.{All}
use Rattle.std.proofs.lemmas.List.{length-replicate}
use Rattle.std.proofs.lemmas.List.Elements.{All-nil, All-cons}
use Rattle.j_definitions.specs.Array.{Array, product, fill_atom}
use Rattle.j_definitions.specs.Limits.{limited}
use Rattle.j_definitions.proofs.Limits.{many_beyond}
use Rattle.j_definitions.specs.declared.Fault.TheVariants.{Limit}
use Rattle.j_definitions.specs.declared.Kind.{Kind}
use Rattle.j_noun.specs.declared.noun.Atoms.{Atoms}
use Rattle.j_noun.specs.declared.refusal.Refusal.{Refusal}
use Rattle.j_noun.specs.Held.{AreAtoms, array_kept, atoms_kept, kind_kept}
use Rattle.j_noun.specs.Refused.{OrWanting}
use Rattle.j_rank.specs.Cells.{cell_of_fills, cell_size}

-- elements that fill are fills
pub fills_map : {X Y : Type 0} (f : X → Y) (z : X) (n : ℕ) → map f (replicate n z) ≡ replicate n (f z)
fills_map f z zero = refl
fills_map f z (suc n) = ap (λ r. f z ∷ r) (fills_map f z n)

-- a noun of fills is the cell of fills
pub fills_made : (a : Array) (t : Atoms) (n size : ℕ) (own : List ℕ) → AreAtoms t a.kind (replicate size (fill_atom a.kind)) → own ≡ drop n a.shape → size ≡ product own →
    array_kept own t ≡ cell_of_fills n a
fills_made a t n size own are shape e =
    let atoms : atoms_kept t ≡ replicate size (fill_atom a.kind) = are.atoms in
    let kind : kind_kept t ≡ a.kind = are.kind in
    let sizes : size ≡ cell_size n a.shape = e ∙ ap product shape in
    cc

-- as many fills as the shape says
pub fills_many : (k : Kind) (t : Atoms) (size : ℕ) (own : List ℕ) → AreAtoms t k (replicate size (fill_atom k)) → size ≡ product own → length (atoms_kept t) ≡ product own
fills_many k t size own are e = ap length are.atoms ∙ length-replicate size (fill_atom k) ∙ e

-- the answer of a call that makes a noun, by another name
pub answers_as : (a b : Array) (m : Result Array Refusal) → a ≡ b → OrWanting (limited a) m → OrWanting (limited b) m
answers_as a b m e h = subst (λ (w : Array). OrWanting (limited w) m) e h

-- too many fills
pub fills_beyond : (a : Array) (own : List ℕ) (n : ℕ) → own ≡ drop n a.shape → 4194304 < product own → limited (cell_of_fills n a) ≡ Err Limit
fills_beyond a own n shape many = many_beyond (cell_of_fills n a) (omega (arith, ap product shape, length-replicate (cell_size n a.shape) (fill_atom a.kind)))

zeros : (n : ℕ) → All (λ b. b < 2) (replicate n 0)
zeros zero = All-nil (λ b. b < 2)
zeros (suc n) = All-cons (λ b. b < 2) 0 (replicate n 0) (omega arith) (zeros n)

-- fills of 0 are bits
pub no_bits : (bs : List ℕ) (n : ℕ) → bs ≡ replicate n 0 → All (λ b. b < 2) bs
no_bits bs n is = subst (All (λ b. b < 2)) (sym is) (zeros n)
