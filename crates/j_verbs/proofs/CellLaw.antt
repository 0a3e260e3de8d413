-- A scalar verb by the rule of cells is its definition on whole nouns.
use Rattle.std.proofs.Common.{◌≡◌, ◌<◌, ◌≤◌, ◌+◌, ◌*◌, ℕ, ℤ, pos, Bool, true, false, cond, List, [], ◌∷◌, ◌++◌, length, map, take, drop, replicate, get_or, arith, refl, sym, ap, subst, ◌∙◌, append-nil, Option, Some, None, Result, Ok, Err}
use Prim.Native.Nat.{suc}
use Rattle.std.specs.List.{All, sum_by, list_all}
use Rattle.std.specs.Prelude.{neg_ℤ, ◌+ℤ◌, ◌-ℤ◌, ◌*ℤ◌, ◌&&◌, ◌||◌, not, int_lt}
use Rattle.std.specs.Int.RustNames.{int_div, int_rem, unsigned_abs}
use Rattle.std.specs.Int.{int_pow}
use Rattle.std.specs.Ordering.{int_eq}
use Rattle.std.proofs.lemmas.List.{take-map, take_all, drop_all, get_or-drop}
use Rattle.std.proofs.lemmas.List.Sums.{sum_by-cons}
use Rattle.j_definitions.specs.Array.{Array, Atom, number, byte, nested, atom_array, product, atom_weight, greatest_level, IsWithin, IsNoun}
use Rattle.j_definitions.specs.Cells.{Agreed, agree, is_prefix, with_first, in_order}
use Rattle.j_kernels.specs.Scalars.{whole, truth, common_divisor, common_multiple, is_zero, is_unit, quotient, power, of_numbers, of_truths, dyad_on, dyad_of, monad_on, monad_of, numbers_of, scalar_dyad}
use Rattle.j_definitions.specs.Range.{in_range}
use Rattle.j_definitions.specs.Cells.{atom_at}
use Rattle.j_definitions.specs.declared.Kind.{Kind}
use Rattle.j_definitions.specs.declared.Kind.TheVariants.{Number, Character, Boxed}
use Rattle.j_definitions.specs.declared.Fault.{Fault}
use Rattle.j_definitions.specs.declared.Fault.TheVariants.{Domain, Overflow, Quotient}
use Rattle.j_kernels.specs.declared.scalar.Scalar.{Scalar}
use Rattle.j_kernels.specs.declared.scalar.Scalar.TheVariants.{Plus, Minus, Times, Divide, Power, Residue, LesserOf, GreaterOf, LessEqual, GreaterEqual, Double, Square, Or, And, Not, Halve, Less, Greater, Equal, NotEqual}
use Rattle.j_definitions.proofs.Laws.{length_le-weight}
use Rattle.j_rank.specs.Cells.{cell, cell_of_fills}
use Rattle.j_definitions.specs.Array.{fill_atom}
use Rattle.j_definitions.specs.Limits.{limited}
use Rattle.j_rank.specs.Assembly.{greatest_rank, greatest_axes, common_shape, atoms_of_all, assembled, assemble, same_kind, kinds_with_atoms, joined_kind}
use Rattle.j_rank.proofs.Assembled.{assemble_as}
use Rattle.j_definitions.proofs.Limits.{limited-Ok}
use Rattle.j_verbs.specs.ByRank.{Cells, over_pairs, zero_atom}
use Rattle.j_verbs.specs.State.{State, Outcome, Gave, Run, then_do, else_do, ◌>>=◌, pure, or_fault}
use Rattle.j_verbs.specs.Words.{one_number}

-- (1) a pure meaning stays pure
pure_ok : (a : Array) (q : Result (List Array) Fault) (s : State) → then_do (or_fault q s) (λ rs. pure (a ∷ rs)) ≡ or_fault (with_first a q) s
pure_ok a (Ok rs) s = refl
pure_ok a (Err e) s = refl

pub pure_first : (r : Result Array Fault) (rest : List (Result Array Fault)) (m : Run (List Array)) (s : State) → m s ≡ or_fault (in_order rest) s →
    then_do (or_fault r s) (λ a. m >>= (λ rs. pure (a ∷ rs))) ≡ or_fault (in_order (r ∷ rest)) s
pure_first (Err e) rest m s h = refl
pure_first (Ok a) rest m s h = ap (λ (o : Outcome (List Array)). then_do o (λ rs. pure (a ∷ rs))) h ∙ pure_ok a (in_order rest) s

pub pure_cells : (h : Option Array → Array → Result Array Fault) (cs : List Cells) (s : State) →
    over_pairs (λ x y. or_fault (h x y)) cs s ≡ or_fault (in_order (map (λ (c : Cells). h c.0 c.1) cs)) s
pure_cells h [] s = refl
pure_cells h (c ∷ cs) s = pure_first (h c.0 c.1) (map (λ (c : Cells). h c.0 c.1) cs) (over_pairs (λ x y. or_fault (h x y)) cs) s (pure_cells h cs s)

-- (2) cells of rank 0 are atoms
pub atom_cell : (a : Array) (k : ℕ) → cell (length a.shape) a k ≡ record { kind = a.kind; shape = []; atoms = take 1 (drop k a.atoms) }
atom_cell a k =
    let none : drop (length a.shape) a.shape ≡ [] = drop_all (length a.shape) a.shape (omega arith) in
    let place : k * 1 ≡ k = omega arith in
    ap (λ (t : List ℕ). let r : Array = record { kind = a.kind; shape = t; atoms = take (product t) (drop (k * product t) a.atoms) } in r) none
    ∙ ap (λ (n : ℕ). let r : Array = record { kind = a.kind; shape = []; atoms = take 1 (drop n a.atoms) } in r) place

pub fill_cell : (a : Array) → cell_of_fills (length a.shape) a ≡ atom_array a.kind (fill_atom a.kind)
fill_cell a =
    let none : drop (length a.shape) a.shape ≡ [] = drop_all (length a.shape) a.shape (omega arith) in
    ap (λ (t : List ℕ). let r : Array = record { kind = a.kind; shape = t; atoms = replicate (product t) (fill_atom a.kind) } in r) none

pub fill_limited : (k : Kind) → limited (atom_array k (fill_atom k)) ≡ Ok (atom_array k (fill_atom k))
fill_limited Number = refl
fill_limited Character = refl
fill_limited Boxed = refl

pub fill_cell_limited : (a : Array) → limited (cell_of_fills (length a.shape) a) ≡ Ok (atom_array a.kind (fill_atom a.kind))
fill_cell_limited a = ap limited (fill_cell a) ∙ fill_limited a.kind

take_first : (xs : List Atom) (d : Atom) → get_or (take 1 xs) 0 d ≡ get_or xs 0 d
take_first [] d = refl
take_first (x ∷ xs) d = refl

pub first_at : (xs : List Atom) (k : ℕ) → atom_at (take 1 (drop k xs)) 0 ≡ atom_at xs k
first_at xs k = let e : k + 0 ≡ k = omega arith in take_first (drop k xs) (number (pos 0)) ∙ get_or-drop k xs 0 (number (pos 0)) ∙ ap (atom_at xs) e

-- the number that a cell gives
abbrev pub single : Atom → Array
single z = atom_array Number z

pub one_is : (r : Result Atom Fault) → numbers_of [] (in_order (r ∷ [])) ≡ one_number r
one_is (Ok z) = refl
one_is (Err e) = refl

-- what a scalar dyad gives on two arrays without axes
pub atoms_answer : (f : Atom → Atom → Result Atom Fault) (k l : Kind) (xs ys : List Atom) →
    scalar_dyad f (record { kind = k; shape = []; atoms = xs }) (record { kind = l; shape = []; atoms = ys }) ≡ one_number (f (atom_at xs 0) (atom_at ys 0))
atoms_answer f k l xs ys = one_is (f (atom_at xs 0) (atom_at ys 0))

pub cell_answer : (f : Atom → Atom → Result Atom Fault) (x y : Array) (i j : ℕ) →
    scalar_dyad f (cell (length x.shape) x i) (cell (length y.shape) y j) ≡ one_number (f (atom_at x.atoms i) (atom_at y.atoms j))
cell_answer f x y i j =
    ap (λ (c : Array). scalar_dyad f c (cell (length y.shape) y j)) (atom_cell x i)
    ∙ ap (λ (d : Array). scalar_dyad f (record { kind = x.kind; shape = []; atoms = take 1 (drop i x.atoms) }) d) (atom_cell y j)
    ∙ atoms_answer f x.kind y.kind (take 1 (drop i x.atoms)) (take 1 (drop j y.atoms))
    ∙ ap (λ (a : Atom). one_number (f a (atom_at (take 1 (drop j y.atoms)) 0))) (first_at x.atoms i)
    ∙ ap (λ (b : Atom). one_number (f (atom_at x.atoms i) b)) (first_at y.atoms j)

-- (3) results that are numbers
abbrev pub IsNumberOr : Result Atom Fault → Type 0
IsNumberOr (Ok (number z)) = Unit {0}
IsNumberOr (Ok (byte b)) = ⊥
IsNumberOr (Ok (nested k s r)) = ⊥
IsNumberOr (Err e) = Unit {0}

pub record AreLight (zs : List Atom) (n : ℕ) : Type 0 where
  pub many : length zs ≡ n
  pub light : sum_by atom_weight zs ≡ n
  pub flat : greatest_level zs ≡ 0

abbrev pub IsLightOr : Result (List Atom) Fault → ℕ → Type 0
IsLightOr (Ok zs) n = AreLight zs n
IsLightOr (Err e) n = Unit {0}

light_more : (z : ℤ) (q : Result (List Atom) Fault) (n : ℕ) → IsLightOr q n → IsLightOr (with_first (number z) q) (suc n)
light_more z (Err e) n h = tt
light_more z (Ok zs) n h = record {
  many = omega (arith, h.many);
  light = omega (arith, h.light, sum_by-cons atom_weight (number z) zs);
  flat = omega (arith, h.flat);
}

light_first : (r : Result Atom Fault) (rest : List (Result Atom Fault)) (n : ℕ) → IsNumberOr r → IsLightOr (in_order rest) n → IsLightOr (in_order (r ∷ rest)) (suc n)
light_first (Ok (number z)) rest n g h = light_more z (in_order rest) n h
light_first (Ok (byte b)) rest n g h = absurd g
light_first (Ok (nested k s r)) rest n g h = absurd g
light_first (Err e) rest n g h = tt

pub all_light : {K : Type 0} (h : K → Result Atom Fault) → ((k : K) → IsNumberOr (h k)) → (ks : List K) → IsLightOr (in_order (map h ks)) (length ks)
all_light h g [] = record { many = refl; light = refl; flat = refl }
all_light h g (k ∷ ks) = light_first (h k) (map h ks) (length ks) (g k) (all_light h g ks)

no_rank : (zs : List Atom) → greatest_rank (map single zs) ≡ 0
no_rank [] = refl
no_rank (z ∷ zs) = no_rank zs

no_axes : (zs : List Atom) → greatest_axes 0 (map single zs) ≡ []
no_axes [] = refl
no_axes (z ∷ zs) = no_axes zs

pub no_shape : (zs : List Atom) → common_shape (map single zs) ≡ []
no_shape zs = ap (λ (n : ℕ). greatest_axes n (map single zs)) (no_rank zs) ∙ no_axes zs

own_atoms : (zs : List Atom) → atoms_of_all Number [] (map single zs) ≡ zs
own_atoms [] = refl
own_atoms (z ∷ zs) = ap (λ (r : List Atom). z ∷ r) (own_atoms zs)

abbrev pub numbers_in : List ℕ → List Atom → Array
numbers_in f zs = record { kind = Number; shape = f; atoms = zs }

pub assembled_atoms : (f : List ℕ) (zs : List Atom) → assembled f (map single zs) Number ≡ numbers_in f (take (product f) zs)
assembled_atoms f zs =
    ap (λ (t : List ℕ). numbers_in (f ++ t) (atoms_of_all Number t (take (product f) (map single zs)))) (no_shape zs)
    ∙ ap (λ (t : List ℕ). numbers_in t (atoms_of_all Number [] (take (product f) (map single zs)))) (append-nil f)
    ∙ ap (λ (xs : List Array). numbers_in f (atoms_of_all Number [] xs)) (take-map single (product f) zs)
    ∙ ap (numbers_in f) (own_atoms (take (product f) zs))

all_numbers : (zs : List Atom) → list_all (same_kind Number) (kinds_with_atoms (map single zs)) ≡ true
all_numbers [] = refl
all_numbers (z ∷ zs) = all_numbers zs

numbers_join : (zs : List Atom) → 0 < length zs → joined_kind (map single zs) ≡ Some Number
numbers_join [] some = absurd (omega arith)
numbers_join (z ∷ zs) some = ap (λ (b : Bool). let k : Option Kind = cond b (Some Number) None in k) (all_numbers zs)

pub assemble_atoms : (f : List ℕ) (zs : List Atom) → 0 < length zs → IsWithin f (take (product f) zs) → assemble f (map single zs) ≡ Ok (numbers_in f (take (product f) zs))
assemble_atoms f zs some within =
    assemble_as f (map single zs) Number (numbers_join zs some) ∙ ap limited (assembled_atoms f zs)
    ∙ limited-Ok (numbers_in f (take (product f) zs)) within

-- (4) frames within the limits
pub record IsFrame (f : List ℕ) : Type 0 where
  pub rank : length f ≤ 32
  pub axes : All (λ n. n ≤ 4194304) f
  pub few : product f ≤ 4194304

abbrev pub IsFrameOr : Option Agreed → Type 0
IsFrameOr (Some a) = IsFrame a.frame
IsFrameOr None = Unit {0}

pub noun_frame : (a : Array) → IsNoun a → IsFrame a.shape
noun_frame a noun = record { rank = noun.within.rank; axes = noun.within.axes; few = omega (arith, noun.as_many, noun.within.light, length_le-weight a.atoms) }

either : (b c : Bool) (l r : Agreed) → IsFrame l.frame → IsFrame r.frame → IsFrameOr (cond b (Some l) (cond c (Some r) None))
either true c l r h g = h
either false true l r h g = g
either false false l r h g = tt

pub agreed_frame : (s t : List ℕ) → IsFrame s → IsFrame t → IsFrameOr (agree s t)
agreed_frame s t h g =
    either (is_prefix s t) (is_prefix t s) (record { frame = t; left = product (drop (length s) t); right = 1 }) (record { frame = s; left = 1; right = product (drop (length t) s) }) g h

-- (5) together
abbrev pub ones_of : Result (List Atom) Fault → Result (List Array) Fault
ones_of (Ok zs) = Ok (map single zs)
ones_of (Err e) = Err e

with_one : (z : Atom) (q : Result (List Atom) Fault) → with_first (single z) (ones_of q) ≡ ones_of (with_first z q)
with_one z (Ok zs) = refl
with_one z (Err e) = refl

pub ones_in_order : (rs : List (Result Atom Fault)) → in_order (map one_number rs) ≡ ones_of (in_order rs)
ones_in_order [] = refl
ones_in_order (Err e ∷ rest) = refl
ones_in_order (Ok z ∷ rest) = ap (with_first (single z)) (ones_in_order rest) ∙ with_one z (in_order rest)

abbrev pub joined : List ℕ → List Array → Run Array
joined f rs = or_fault (assemble f rs)

pub light_within : (f : List ℕ) (zs : List Atom) (n : ℕ) → IsFrame f → AreLight zs n → n ≤ 4194304 → IsWithin f zs
light_within f zs n h l few = record { rank = h.rank; axes = h.axes; light = omega (arith, l.light); shallow = omega (arith, l.flat) }

pub finish : (f : List ℕ) (q : Result (List Atom) Fault) (s : State) → IsFrame f → 0 < product f → IsLightOr q (product f) →
    then_do (or_fault (ones_of q) s) (joined f) ≡ or_fault (numbers_of f q) s
finish f (Err e) s h some l = refl
finish f (Ok zs) s h some l =
    let all : take (product f) zs ≡ zs = take_all (product f) zs (omega (arith, l.many)) in
    let within : IsWithin f (take (product f) zs) = subst (IsWithin f) (sym all) (light_within f zs (product f) h l h.few) in
    ap (λ (r : Result Array Fault). or_fault r s) (assemble_atoms f zs (omega (arith, l.many)) within ∙ ap (λ (us : List Atom). let r : Result Array Fault = Ok (numbers_in f us) in r) all)

-- a frame that holds a 0
no_light : AreLight [] 0
no_light = record { many = refl; light = refl; flat = refl }

assemble_none : (f : List ℕ) (w : Atom) → IsFrame f → product f ≡ 0 → assemble f (single w ∷ []) ≡ Ok (numbers_in f [])
assemble_none f w h none =
    let all : take (product f) (w ∷ []) ≡ [] = ap (λ (n : ℕ). take n (w ∷ [])) none in
    let within : IsWithin f (take (product f) (w ∷ [])) = subst (IsWithin f) (sym all) (light_within f [] 0 h no_light (omega arith)) in
    assemble_atoms f (w ∷ []) (omega arith) within ∙ ap (λ (us : List Atom). let r : Result Array Fault = Ok (numbers_in f us) in r) all

pub finish_none : (f : List ℕ) (r : Result Atom Fault) (s : State) → IsFrame f → product f ≡ 0 →
    then_do (else_do (or_fault (one_number r) s) (pure zero_atom)) (λ c. or_fault (assemble f (c ∷ []))) ≡ Gave (numbers_in f []) s
finish_none f (Ok z) s h none = ap (λ (q : Result Array Fault). or_fault q s) (assemble_none f z h none)
finish_none f (Err e) s h none = ap (λ (q : Result Array Fault). or_fault q s) (assemble_none f (number (pos 0)) h none)

-- the scalar verbs give numbers
number_if : (b : Bool) (p q : Result Atom Fault) → IsNumberOr p → IsNumberOr q → IsNumberOr (cond b p q)
number_if true p q h g = h
number_if false p q h g = g

whole_number : (z : ℤ) → IsNumberOr (whole z)
whole_number z = number_if (in_range z) (Ok (number z)) (Err Overflow) tt tt

quotient_number : (x y : ℤ) → IsNumberOr (quotient x y)
quotient_number x y =
    number_if (is_zero y) (cond (is_zero x) (Ok (number (pos 0))) (Err Quotient)) (cond (is_zero (int_rem x y)) (whole (int_div x y)) (Err Quotient))
    (number_if (is_zero x) (Ok (number (pos 0))) (Err Quotient) tt tt)
    (number_if (is_zero (int_rem x y)) (whole (int_div x y)) (Err Quotient) (whole_number (int_div x y)) tt)

power_number : (x y : ℤ) → IsNumberOr (power x y)
power_number x y =
    number_if (int_lt y (pos 0) && not (is_unit x)) (Err Quotient) (whole (int_pow x (unsigned_abs y))) tt (whole_number (int_pow x (unsigned_abs y)))

truths_number : (f : Bool → Bool → Bool) (x y : ℤ) → IsNumberOr (of_truths f x y)
truths_number f x y =
    number_if ((is_zero x || int_eq x (pos 1)) && (is_zero y || int_eq y (pos 1))) (Ok (truth (f (int_eq x (pos 1)) (int_eq y (pos 1))))) (Err Domain) tt tt

dyad_on_number : (v : Scalar) (y z : ℤ) → IsNumberOr (dyad_on v y z)
dyad_on_number Plus y z = whole_number (y +ℤ z)
dyad_on_number Minus y z = whole_number (y -ℤ z)
dyad_on_number Times y z = whole_number (y *ℤ z)
dyad_on_number Divide y z = quotient_number y z
dyad_on_number Power y z = power_number y z
dyad_on_number Residue y z = tt
dyad_on_number LesserOf y z = tt
dyad_on_number GreaterOf y z = tt
dyad_on_number LessEqual y z = tt
dyad_on_number GreaterEqual y z = tt
dyad_on_number Double y z = truths_number (λ a b. not (a || b)) y z
dyad_on_number Square y z = truths_number (λ a b. not (a && b)) y z
dyad_on_number Or y z = whole_number (pos (common_divisor (unsigned_abs y) (unsigned_abs z)))
dyad_on_number And y z = whole_number (common_multiple y z)
dyad_on_number Not y z = tt
dyad_on_number Halve y z = tt
dyad_on_number Less y z = tt
dyad_on_number Greater y z = tt
dyad_on_number Equal y z = tt
dyad_on_number NotEqual y z = tt

numbers_number : (f : ℤ → ℤ → Result Atom Fault) → ((y z : ℤ) → IsNumberOr (f y z)) → (a b : Atom) → IsNumberOr (of_numbers f a b)
numbers_number f h (number y) (number z) = h y z
numbers_number f h (number y) (byte b) = tt
numbers_number f h (number y) (nested k s r) = tt
numbers_number f h (byte c) b = tt
numbers_number f h (nested k s r) b = tt

pub dyad_of_number : (v : Scalar) (a b : Atom) → IsNumberOr (dyad_of v a b)
dyad_of_number Equal a b = tt
dyad_of_number NotEqual a b = tt
dyad_of_number v a b = numbers_number (dyad_on v) (dyad_on_number v) a b

monad_on_number : (v : Scalar) (z : ℤ) → IsNumberOr (monad_on v z)
monad_on_number Plus z = tt
monad_on_number Minus z = whole_number (neg_ℤ z)
monad_on_number Times z = tt
monad_on_number Power z = tt
monad_on_number Divide z = number_if (is_unit z) (Ok (number z)) (Err Quotient) tt tt
monad_on_number Residue z = whole_number (pos (unsigned_abs z))
monad_on_number LesserOf z = tt
monad_on_number GreaterOf z = tt
monad_on_number LessEqual z = whole_number (z -ℤ pos 1)
monad_on_number GreaterEqual z = whole_number (z +ℤ pos 1)
monad_on_number Double z = whole_number (pos 2 *ℤ z)
monad_on_number Square z = whole_number (z *ℤ z)
monad_on_number Or z = tt
monad_on_number And z = tt
monad_on_number Not z = whole_number (pos 1 -ℤ z)
monad_on_number Halve z = number_if (is_zero (int_rem z (pos 2))) (Ok (number (int_div z (pos 2)))) (Err Quotient) tt tt
monad_on_number Less z = tt
monad_on_number Greater z = tt
monad_on_number Equal z = tt
monad_on_number NotEqual z = tt

pub monad_of_number : (v : Scalar) (a : Atom) → IsNumberOr (monad_of v a)
monad_of_number v (number y) = monad_on_number v y
monad_of_number v (byte c) = tt
monad_of_number v (nested k s r) = tt
