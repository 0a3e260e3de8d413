-- Results that become one noun.
use Rattle.std.proofs.Common.{◌≡◌, ◌<◌, ◌+◌, ◌*◌, ℕ, max, List, [], ◌++◌, length, take, arith, refl, sym, ap, ◌∙◌, subst, Some, Err}
use Prim.Native.Nat.{zero, suc}
use Rattle.std.specs.List.{All}
use Rattle.std.proofs.lemmas.List.{length-append, length-take, take_all, nil_from_length}
use Rattle.std.proofs.lemmas.List.Elements.{All-take}
use Rattle.j_definitions.specs.Array.{Array, Atom, product, IsNoun}
use Rattle.j_definitions.specs.Limits.{limited}
use Rattle.j_definitions.proofs.Limits.{limited-Err, many_beyond}
use Rattle.j_definitions.specs.declared.Kind.{Kind}
use Rattle.j_definitions.specs.declared.Fault.TheVariants.{Limit}
use Rattle.j_noun.specs.declared.noun.Atoms.{Atoms}
use Rattle.j_noun.specs.Held.{AreAtoms, array_kept, atoms_kept, kind_kept}
use Rattle.j_rank.specs.Assembly.{with_rank, common_shape, atoms_of_all, joined_kind, assembled, assembled_as, assemble}
use Rattle.j_rank.proofs.Products.{product_append}
use Rattle.j_rank.specs.Places.{IsUnder}
use Rattle.j_rank.proofs.Widest.{all_under}
use Rattle.j_rank.proofs.Paddings.{length-atoms_of_all}

-- results of one kind
pub assemble_as : (f : List ℕ) (xs : List Array) (k : Kind) → joined_kind xs ≡ Some k → assemble f xs ≡ limited (assembled f xs k)
assemble_as f xs k e = ap (assembled_as f xs) e

-- as many results as the frame has places
results_many : (f : List ℕ) (xs : List Array) → length xs ≡ max (product f) 1 → length (take (product f) xs) ≡ product f
results_many f xs e = omega (arith, length-take (product f) xs)

pub assembled_many : (f : List ℕ) (xs : List Array) (k : Kind) → All IsNoun xs → length xs ≡ max (product f) 1 → length (assembled f xs k).atoms ≡ product (f ++ common_shape xs)
assembled_many f xs k nouns e =
    let s = common_shape xs in
    length-atoms_of_all k s (take (product f) xs) (All-take IsNoun (product f) xs nouns) (All-take (λ a. IsUnder (with_rank (length s) a.shape) s) (product f) xs (all_under xs))
    ∙ ap (λ n. n * product s) (results_many f xs e) ∙ sym (product_append f s)

-- too many axes, or atoms
pub rank_beyond : (f : List ℕ) (xs : List Array) (k : Kind) → joined_kind xs ≡ Some k → 32 < length f + length (common_shape xs) → assemble f xs ≡ Err Limit
rank_beyond f xs k e long =
    assemble_as f xs k e ∙ limited-Err (assembled f xs k) (λ w. omega (arith, w.rank, length-append f (common_shape xs)))

pub size_beyond : (f : List ℕ) (xs : List Array) (k : Kind) → joined_kind xs ≡ Some k → All IsNoun xs → length xs ≡ max (product f) 1 → 4194304 < product (f ++ common_shape xs) → assemble f xs ≡ Err Limit
size_beyond f xs k e nouns ex many =
    assemble_as f xs k e ∙ many_beyond (assembled f xs k) (omega (arith, assembled_many f xs k nouns ex))

factor_some : (p q n : ℕ) → suc n ≡ p * q → 0 < p
factor_some zero q n e = absurd (omega arith)
factor_some (suc p) q n e = omega arith

-- all atoms are gathered
pub gathered : (f : List ℕ) (xs : List Array) (k : Kind) (t : Atoms) (total : ℕ) → All IsNoun xs → length xs ≡ max (product f) 1 → total ≡ product (f ++ common_shape xs) →
    (total ≡ 0 → AreAtoms t k []) → (0 < total → AreAtoms t k (atoms_of_all k (common_shape xs) xs)) → AreAtoms t k (assembled f xs k).atoms
gathered f xs k t zero nouns e et none all =
    subst (λ (ys : List Atom). AreAtoms t k ys) (sym (nil_from_length (assembled f xs k).atoms (assembled_many f xs k nouns e ∙ sym et))) (none refl)
gathered f xs k t (suc n) nouns e et none all =
    let some : 0 < product f = factor_some (product f) (product (common_shape xs)) n (et ∙ product_append f (common_shape xs)) in
    subst (λ (ys : List Array). AreAtoms t k (atoms_of_all k (common_shape xs) ys)) (sym (take_all (product f) xs (omega arith))) (all (omega arith))

-- how many atoms there are where there are any
pub total_is : (f : List ℕ) (xs : List Array) (total : ℕ) → length xs ≡ max (product f) 1 → total ≡ product (f ++ common_shape xs) → 0 < total → total ≡ length xs * product (common_shape xs)
total_is f xs zero e et some = absurd (omega arith)
total_is f xs (suc n) e et some =
    let positive : 0 < product f = factor_some (product f) (product (common_shape xs)) n (et ∙ product_append f (common_shape xs)) in
    let many : product f ≡ length xs = omega arith in
    et ∙ product_append f (common_shape xs) ∙ ap (λ k. k * product (common_shape xs)) many

-- atoms in the shape of the frame and the results
pub assembled_is : (f : List ℕ) (xs : List Array) (k : Kind) (t : Atoms) (shape : List ℕ) → shape ≡ f ++ common_shape xs → AreAtoms t k (assembled f xs k).atoms → array_kept shape t ≡ assembled f xs k
assembled_is f xs k t shape e are =
    let atoms : atoms_kept t ≡ (assembled f xs k).atoms = are.atoms in
    let kind : kind_kept t ≡ k = are.kind in
    ap (λ s. let it : Array = record { kind = kind_kept t; shape = s; atoms = atoms_kept t } in it) e
    ∙ ap (λ j. let it : Array = record { kind = j; shape = f ++ common_shape xs; atoms = atoms_kept t } in it) kind
    ∙ ap (λ ys. let it : Array = record { kind = k; shape = f ++ common_shape xs; atoms = ys } in it) atoms
