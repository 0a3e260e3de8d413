-- The answers of words on one cell.
use Rattle.std.proofs.Common.{◌≡◌, ◌≤◌, refl, ap, ◌∙◌, Some, None, List, [], ◌∷◌, length, arith, ℕ}
use Rattle.std.specs.List.{sum_by}
use Rattle.std.proofs.lemmas.List.Sums.{sum_by-cons}
use Rattle.std.proofs.lemmas.List.Elements.{All-nil}
use Rattle.j_definitions.specs.Array.{Array, Atom, atom_weight, greatest_level, IsWithin}
use Rattle.j_kernels.specs.Scalars.{monad_of, dyad_of, scalar_monad, scalar_dyad, agreed_dyad}
use Rattle.j_kernels.specs.declared.scalar.Scalar.{Scalar}
use Rattle.j_definitions.specs.Cells.{agree}
use Rattle.j_verbs.specs.Words.{atom_of, scalar_cell}
use Rattle.j_verbs.proofs.CellLaw.{one_is}

-- the first atom of a noun alone is within the limits
pub first_within : (s : List ℕ) (x : Atom) (xs : List Atom) → IsWithin s (x ∷ xs) → IsWithin [] (x ∷ [])
first_within s x xs h =
    let light : sum_by atom_weight (x ∷ xs) ≤ 4194304 = h.light in
    let shallow : greatest_level (x ∷ xs) ≤ 64 = h.shallow in
    record {
      rank = omega arith;
      axes = All-nil (λ n. n ≤ 4194304);
      light = omega (arith, sum_by-cons atom_weight x xs, sum_by-cons atom_weight x []);
      shallow = omega arith;
    }

-- a scalar verb on nouns without axes
pub alone_answer : (v : Scalar) (y b : Array) → b.shape ≡ [] → b.atoms ≡ atom_of y ∷ [] → scalar_monad (monad_of v) b ≡ scalar_cell v None y
alone_answer v y b e h =
    ap (λ (t : List ℕ). scalar_monad (monad_of v) (let r : Array = record { kind = b.kind; shape = t; atoms = b.atoms } in r)) e
    ∙ ap (λ (xs : List Atom). scalar_monad (monad_of v) (let r : Array = record { kind = b.kind; shape = []; atoms = xs } in r)) h
    ∙ one_is (monad_of v (atom_of y))

pub pair_answer : (v : Scalar) (x y a b : Array) → a.shape ≡ [] → a.atoms ≡ atom_of x ∷ [] → b.shape ≡ [] → b.atoms ≡ atom_of y ∷ [] → scalar_dyad (dyad_of v) a b ≡ scalar_cell v (Some x) y
pair_answer v x y a b ea ha eb hb =
    ap (λ (t : List ℕ). agreed_dyad (dyad_of v) (agree t b.shape) a.atoms b.atoms) ea
    ∙ ap (λ (t : List ℕ). agreed_dyad (dyad_of v) (agree [] t) a.atoms b.atoms) eb
    ∙ ap (λ (xs : List Atom). agreed_dyad (dyad_of v) (agree [] []) xs b.atoms) ha
    ∙ ap (λ (ys : List Atom). agreed_dyad (dyad_of v) (agree [] []) (atom_of x ∷ []) ys) hb
    ∙ one_is (dyad_of v (atom_of x) (atom_of y))

-- a noun of no more than no axes has none
pub no_axes : (s : List ℕ) → length s ≤ 0 → s ≡ []
no_axes [] h = refl
no_axes (n ∷ s) h = absurd (omega arith)
