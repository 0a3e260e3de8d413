-- How the logic stores a noun, and that the two lists of atoms are one.
use Rattle.std.specs.Prelude.{◌≡◌, ℕ, List, [], ◌∷◌, refl}
use Prim.Native.Nat.{zero, suc}
use Rattle.std.proofs.Common.{ap}
use Rattle.std.specs.Coded.{Coded, code_by, coded×, coded_ℕ, coded_ℤ, coded_list}
use base.Stored.{Gv, gnil, gnum, gcons}
use Rattle.j_definitions.specs.declared.Kind.{Kind}
use Rattle.j_definitions.specs.declared.Kind.TheVariants.{Number, Character, Boxed}
use Rattle.j_definitions.specs.Array.{Atom, number, byte, nested, Row, row_end, row_more, Array, row_of, atoms_in}

pub atoms_in-row_of : (xs : List Atom) → atoms_in (row_of xs) ≡ xs
atoms_in-row_of [] = refl
atoms_in-row_of (x ∷ rest) = ap (λ r. x ∷ r) (atoms_in-row_of rest)

pub row_of-atoms_in : (r : Row) → row_of (atoms_in r) ≡ r
row_of-atoms_in row_end = refl
row_of-atoms_in (row_more x rest) = ap (row_more x) (row_of-atoms_in rest)

abbrev kind_number : Kind → ℕ
kind_number Number = 0
kind_number Character = 1
kind_number Boxed = 2

abbrev kind_at : ℕ → Kind
kind_at zero = Number
kind_at (suc zero) = Character
kind_at (suc (suc n)) = Boxed

pub kind_at-kind_number : (k : Kind) → kind_at (kind_number k) ≡ k
kind_at-kind_number Number = refl
kind_at-kind_number Character = refl
kind_at-kind_number Boxed = refl

abbrev pub kind_code : Coded Kind
kind_code = code_by ℕ coded_ℕ kind_number kind_at kind_at-kind_number

abbrev head_code : Coded (Kind × List ℕ)
head_code = coded× kind_code (coded_list coded_ℕ)

abbrev mutual
  pub atom_stored : Atom → Gv
  atom_stored (number z) = gcons gnil (coded_ℤ.code z)
  atom_stored (byte b) = gnum b
  atom_stored (nested k s r) = gcons (gcons (head_code.code (k, s)) gnil) (row_stored r)

  pub row_stored : Row → Gv
  row_stored row_end = gnil
  row_stored (row_more x rest) = gcons (atom_stored x) (row_stored rest)

mutual
  pub atom_stored_inj : (x y : Atom) → atom_stored x ≡ atom_stored y → x ≡ y
  atom_stored_inj (number z) (number y) p = let e = coded_ℤ.inj z y cc in cc
  atom_stored_inj (number z) (byte b) p = cc
  atom_stored_inj (number z) (nested k s r) p = cc
  atom_stored_inj (byte b) (number y) p = cc
  atom_stored_inj (byte b) (byte c) p = cc
  atom_stored_inj (byte b) (nested k s r) p = cc
  atom_stored_inj (nested k s q) (number y) p = cc
  atom_stored_inj (nested k s q) (byte b) p = cc
  atom_stored_inj (nested k s q) (nested l t r) p =
      let e = head_code.inj (k, s) (l, t) cc in
      let e0 = ap (λ w. w.0) e in
      let e1 = ap (λ w. w.1) e in
      let f = row_stored_inj q r cc in cc

  pub row_stored_inj : (q r : Row) → row_stored q ≡ row_stored r → q ≡ r
  row_stored_inj row_end row_end p = refl
  row_stored_inj row_end (row_more y r) p = cc
  row_stored_inj (row_more x q) row_end p = cc
  row_stored_inj (row_more x q) (row_more y r) p =
      let e = atom_stored_inj x y cc in
      let f = row_stored_inj q r cc in cc

abbrev pub atom_code : Coded Atom
atom_code = record { code = atom_stored; inj = atom_stored_inj }

abbrev pub array_code : Coded Array
array_code = code_by (Kind × (List ℕ × List Atom)) (coded× kind_code (coded× (coded_list coded_ℕ) (coded_list atom_code)))
    (λ a. (a.kind, (a.shape, a.atoms)))
    (λ p. record { kind = p.0; shape = p.1.0; atoms = p.1.1 })
    (λ _. refl)
