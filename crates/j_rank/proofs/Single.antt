-- A frame without axes: the whole of a noun is its one cell, and the one result is the whole.
use Rattle.std.proofs.Common.{◌≡◌, ◌*◌, ℕ, max, true, false, nat_eq, cond, List, [], ◌∷◌, ◌++◌, length, take, drop, replicate, arith, refl, ap, ◌∙◌, append-nil, Some, Ok}
use Prim.Native.Nat.{zero, suc}
use Rattle.std.proofs.lemmas.List.{take_all}
use Rattle.j_definitions.specs.Array.{Array, Atom, product, fill_atom, IsNoun}
use Rattle.j_definitions.specs.Limits.{limited}
use Rattle.j_rank.specs.Assembly.{with_rank, greater_axes, common_shape, padded, one_kind, joined_kind, assembled, assembled_as, assemble}
use Rattle.j_rank.specs.Cells.{cell}
use Rattle.j_definitions.proofs.Limits.{limited-Ok}
use Rattle.j_rank.proofs.Paddings.{padded_same}
use Rattle.j_rank.proofs.Widest.{with_rank_same}

greater_zeros : (n : ℕ) (s : List ℕ) → length s ≡ n → greater_axes (replicate n 0) s ≡ s
greater_zeros zero [] e = refl
greater_zeros zero (m ∷ s) e = absurd (omega arith)
greater_zeros (suc n) [] e = absurd (omega arith)
greater_zeros (suc n) (m ∷ s) e =
    let rest : length s ≡ n = omega arith in
    let first : max 0 m ≡ m = omega arith in
    ap (λ k. k ∷ greater_axes (replicate n 0) s) first ∙ ap (λ t. m ∷ t) (greater_zeros n s rest)

-- the shape of one result is its own
common_one : (a : Array) → common_shape (a ∷ []) ≡ a.shape
common_one a =
    let rank : max 0 (length a.shape) ≡ length a.shape = omega arith in
    ap (λ n. greater_axes (replicate n 0) (with_rank n a.shape)) rank ∙ ap (λ t. greater_axes (replicate (length a.shape) 0) t) (with_rank_same (length a.shape) a.shape refl)
    ∙ greater_zeros (length a.shape) a.shape refl

joined_one : (a : Array) → joined_kind (a ∷ []) ≡ Some a.kind
joined_one a = elim (nat_eq (length a.atoms) 0) as (λ b. one_kind (cond b [] (a.kind ∷ [])) (a ∷ []) ≡ Some a.kind) [ true ↦ refl | false ↦ refl ]

-- its atoms, where it is brought to this shape
abbrev brought : Array → List ℕ → List Atom
brought a s = padded (fill_atom a.kind) (with_rank (length s) a.shape) s a.atoms ++ []

brought_same : (a : Array) → IsNoun a → brought a a.shape ≡ a.atoms
brought_same a noun =
    ap (λ t. padded (fill_atom a.kind) t a.shape a.atoms ++ []) (with_rank_same (length a.shape) a.shape refl)
    ∙ ap (λ xs. xs ++ []) (padded_same (fill_atom a.kind) a.shape a.atoms noun.as_many) ∙ append-nil a.atoms

assembled_one : (a : Array) → IsNoun a → assembled [] (a ∷ []) a.kind ≡ a
assembled_one a noun =
    ap (λ s. let r : Array = record { kind = a.kind; shape = s; atoms = brought a s } in r) (common_one a)
    ∙ ap (λ xs. let r : Array = record { kind = a.kind; shape = a.shape; atoms = xs } in r) (brought_same a noun)

pub assemble_one : (a : Array) → IsNoun a → assemble [] (a ∷ []) ≡ Ok a
assemble_one a noun =
    ap (assembled_as [] (a ∷ [])) (joined_one a) ∙ ap limited (assembled_one a noun) ∙ limited-Ok a noun.within

-- the whole of a noun is its one cell
pub whole_cell : (a : Array) → IsNoun a → cell 0 a 0 ≡ a
whole_cell a noun =
    let none : 0 * product a.shape ≡ 0 = omega arith in
    ap (λ n. let r : Array = record { kind = a.kind; shape = a.shape; atoms = take (product a.shape) (drop n a.atoms) } in r) none
    ∙ ap (λ xs. let r : Array = record { kind = a.kind; shape = a.shape; atoms = xs } in r) (take_all (product a.shape) a.atoms (omega (arith, noun.as_many)))
