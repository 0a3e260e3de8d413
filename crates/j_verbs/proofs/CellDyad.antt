-- A verb of ranks 0 0 by the rule of cells, whatever it is, where its meaning on atoms is pure and gives numbers.
use Rattle.std.proofs.Common.{◌≡◌, ◌<◌, ◌-◌, ◌*◌, ◌/◌, ℕ, ℤ, pos, Bool, true, false, ◌&&◌, nat_eq, cond, List, [], ◌∷◌, length, map, take, drop, arith, refl, sym, ap, subst, ◌∙◌, mul_assoc, Option, Some, None, Result, Ok, Err}
use Prim.Native.Nat.{zero, suc}
use Rattle.std.specs.List.{range_with_len}
use Rattle.std.proofs.lemmas.Bool.{le-leb, eqb-true}
use Rattle.std.proofs.lemmas.Nat.{div_below}
use Rattle.std.proofs.lemmas.List.{take_all, drop_more, length-map}
use Rattle.std.proofs.lemmas.List.FromFn.{length-range_with_len}
use Rattle.std.proofs.lemmas.List.Elements.{All-get_or}
use Rattle.j_definitions.specs.Array.{Array, Atom, number, byte, nested, atom_array, product, IsNoun, IsOfKind}
use Rattle.j_definitions.specs.Cells.{Agreed, agree, is_prefix, pairs, in_order}
use Rattle.j_kernels.specs.Scalars.{of_numbers, numbers_of, answers, agreed_dyad, scalar_dyad}
use Rattle.j_definitions.specs.Cells.{atom_at}
use Rattle.j_definitions.specs.declared.Kind.{Kind}
use Rattle.j_definitions.specs.declared.Kind.TheVariants.{Number, Character, Boxed}
use Rattle.j_definitions.specs.declared.Fault.{Fault}
use Rattle.j_definitions.specs.declared.Fault.TheVariants.{Limit}
use Rattle.j_noun.specs.declared.ranks.Rank.{Rank}
use Rattle.j_noun.specs.declared.ranks.Rank.TheVariants as rank
use Rattle.j_leaves.specs.declared.ranks.Ranks.{Ranks}
use Rattle.j_rank.specs.Cells.{cell, cell_of_fills}
use Rattle.j_definitions.specs.Array.{fill_atom}
use Rattle.j_rank.specs.Plans.{Planned, plan_of, dyad_plan}
use Rattle.j_definitions.specs.Limits.{limited}
use Rattle.j_rank.specs.Assembly.{assemble}
use Rattle.j_rank.proofs.Products.{rest_some}
use Rattle.j_verbs.specs.ByRank.{Doing, Cells, planned_for, pair, with_left, on_pair, on_pairs, fills, fill_result, zero_atom, on_fills, source, by_source, by_plan, by_ranks}
use Rattle.j_verbs.specs.State.{State, Outcome, then_do, else_do, pure, or_fault}
use Rattle.j_verbs.specs.Words.{one_number}
use Rattle.j_verbs.proofs.Sources.{none_met, some_met}
use Rattle.j_verbs.proofs.CellLaw.{atom_cell, fill_cell_limited, IsNumberOr, IsLightOr, all_light, ones_in_order, joined, finish, finish_none, IsFrame, noun_frame}
use Rattle.j_verbs.proofs.CellMonad.{pure_range}

both_true : (a b : Bool) → (a && b) ≡ true → (a ≡ true) × (b ≡ true)
both_true true true h = (refl, refl)
both_true true false h = cc
both_true false b h = cc

product_prefix : (s t : List ℕ) → is_prefix s t ≡ true → product s * product (drop (length s) t) ≡ product t
product_prefix [] t h = omega arith
product_prefix (m ∷ s) [] h = cc
product_prefix (m ∷ s) (n ∷ t) h =
    let both = both_true (nat_eq m n) (is_prefix s t) h in
    let same : m ≡ n = eqb-true m n both.0 in
    let rest = product_prefix s t both.1 in
    rw (same, ← rest) (mul_assoc n (product s) (product (drop (length s) t)))

-- the agreement of two frames: a frame within the limits, and each place has its cells
pub record IsAgreed (s t : List ℕ) (a : Agreed) : Type 0 where
  pub frame : IsFrame a.frame
  pub left : (k : ℕ) → k < product a.frame → k / a.left < product s
  pub right : (k : ℕ) → k < product a.frame → k / a.right < product t

abbrev pub IsAgreedOr : List ℕ → List ℕ → Option Agreed → Type 0
IsAgreedOr s t (Some a) = IsAgreed s t a
IsAgreedOr s t None = Unit {0}

shared : (s t : List ℕ) (k : ℕ) → is_prefix s t ≡ true → k < product t → k / product (drop (length s) t) < product s
shared s t k h l = div_below k (product (drop (length s) t)) (product s) (rest_some t (length s) (omega arith)) (omega (arith, product_prefix s t h))

own : (t : List ℕ) (k : ℕ) → k < product t → k / 1 < product t
own t k l = div_below k 1 (product t) (omega arith) (omega arith)

either : (s t : List ℕ) (b c : Bool) → is_prefix s t ≡ b → is_prefix t s ≡ c → IsFrame s → IsFrame t →
    IsAgreedOr s t (cond b (Some (record { frame = t; left = product (drop (length s) t); right = 1 })) (cond c (Some (record { frame = s; left = 1; right = product (drop (length t) s) })) None))
either s t true c eb ec fs ft = record { frame = ft; left = λ k l. shared s t k eb l; right = λ k l. own t k l }
either s t false true eb ec fs ft = record { frame = fs; left = λ k l. own s k l; right = λ k l. shared t s k ec l }
either s t false false eb ec fs ft = tt

pub agreement : (s t : List ℕ) → IsFrame s → IsFrame t → IsAgreedOr s t (agree s t)
agreement s t fs ft = either s t (is_prefix s t) (is_prefix t s) refl refl fs ft

-- the atom of a place
one_atom : (a : Array) (k : ℕ) → k < length a.atoms → cell (length a.shape) a k ≡ atom_array a.kind (atom_at a.atoms k)
one_atom a k l =
    atom_cell a k ∙ ap (λ (xs : List Atom). let c : Array = record { kind = a.kind; shape = []; atoms = take 1 xs } in c) (drop_more a.atoms k (number (pos 0)) l)

fill_kind : (k : Kind) → IsOfKind k (fill_atom k)
fill_kind Number = tt
fill_kind Character = tt
fill_kind Boxed = tt

module _ (f : Atom → Atom → Result Atom Fault) (good : (a b : Atom) → IsNumberOr (f a b)) (F : Doing) (x y : Array) (s : State)
    (is : (a b : Atom) → IsOfKind x.kind a → IsOfKind y.kind b → F (Some (atom_array x.kind a)) (atom_array y.kind b) s ≡ or_fault (one_number (f a b)) s) where
  abbrev plan : Agreed → Planned
  plan a = record { left = length x.shape; right = length y.shape; agreed = a }

  abbrev at : Agreed → ℕ → Result Array Fault
  at a k = one_number (f (atom_at x.atoms (k / a.left)) (atom_at y.atoms (k / a.right)))

  pair_is : (i j : ℕ) → IsNoun x → IsNoun y → i < product x.shape → j < product y.shape →
      F (Some (cell (length x.shape) x i)) (cell (length y.shape) y j) s ≡ or_fault (one_number (f (atom_at x.atoms i) (atom_at y.atoms j))) s
  pair_is i j nx ny li lj =
      let mi : i < length x.atoms = omega (arith, nx.as_many) in
      let mj : j < length y.atoms = omega (arith, ny.as_many) in
      ap (λ (c : Array). F (Some c) (cell (length y.shape) y j) s) (one_atom x i mi) ∙ ap (λ (d : Array). F (Some (atom_array x.kind (atom_at x.atoms i))) d s) (one_atom y j mj)
      ∙ is (atom_at x.atoms i) (atom_at y.atoms j) (All-get_or (IsOfKind x.kind) x.atoms i (number (pos 0)) mi nx.of_kind) (All-get_or (IsOfKind y.kind) y.atoms j (number (pos 0)) mj ny.of_kind)

  ones_are : (a : Agreed) (ks : List ℕ) → map (at a) ks ≡ map one_number (map (λ (p : ℕ × ℕ). f (atom_at x.atoms p.0) (atom_at y.atoms p.1)) (map (λ k. (k / a.left, k / a.right)) ks))
  ones_are a [] = refl
  ones_are a (k ∷ ks) = ap (λ (rs : List (Result Array Fault)). at a k ∷ rs) (ones_are a ks)

  answers_light : (a : Agreed) → IsLightOr (in_order (answers f a x.atoms y.atoms)) (product a.frame)
  answers_light a =
      subst (IsLightOr (in_order (answers f a x.atoms y.atoms))) (length-map (range_with_len 0 (product a.frame)) (λ k. (k / a.left, k / a.right)) ∙ length-range_with_len 0 (product a.frame))
      (all_light (λ (p : ℕ × ℕ). f (atom_at x.atoms p.0) (atom_at y.atoms p.1)) (λ p. good (atom_at x.atoms p.0) (atom_at y.atoms p.1)) (pairs a))

  some_cells : (a : Agreed) → IsNoun x → IsNoun y → IsAgreed x.shape y.shape a → 0 < product a.frame → on_pairs F (source (plan a) (Some x) y) s ≡ or_fault (numbers_of a.frame (in_order (answers f a x.atoms y.atoms))) s
  some_cells a nx ny ag some =
      ap (λ (o : Outcome (List Array)). then_do o (joined a.frame)) (
      pure_range F (pair (plan a) (Some x) y) (at a) s 0 (product a.frame) (λ k l. let m : k < product a.frame = omega arith in pair_is (k / a.left) (k / a.right) nx ny (ag.left k m) (ag.right k m))
      ∙ ap (λ (rs : List (Result Array Fault)). or_fault (in_order rs) s) (ones_are a (range_with_len 0 (product a.frame)))
      ∙ ap (λ (q : Result (List Array) Fault). or_fault q s) (ones_in_order (answers f a x.atoms y.atoms))
      )
      ∙ finish a.frame (in_order (answers f a x.atoms y.atoms)) s ag.frame some (answers_light a)

  abbrev fill_x : Array
  fill_x = atom_array x.kind (fill_atom x.kind)

  fills_are : (a : Agreed) → fills (plan a) (Some x) y ≡ Ok (Some fill_x, atom_array y.kind (fill_atom y.kind))
  fills_are a =
      ap (λ (l : Result Array Fault). with_left l (limited (cell_of_fills (length y.shape) y))) (fill_cell_limited x)
      ∙ ap (λ (r : Result Array Fault). with_left (Ok fill_x) r) (fill_cell_limited y)

  filled : (a : Agreed) → fill_result F (source (plan a) (Some x) y) s ≡ or_fault (one_number (f (fill_atom x.kind) (fill_atom y.kind))) s
  filled a = ap (λ (q : Result Cells Fault). then_do (or_fault q s) (on_pair F)) (fills_are a) ∙ is (fill_atom x.kind) (fill_atom y.kind) (fill_kind x.kind) (fill_kind y.kind)

  no_answers : (a : Agreed) → product a.frame ≡ 0 → answers f a x.atoms y.atoms ≡ []
  no_answers a none = ap (λ (n : ℕ). map (λ (p : ℕ × ℕ). f (atom_at x.atoms p.0) (atom_at y.atoms p.1)) (map (λ k. (k / a.left, k / a.right)) (range_with_len 0 n))) none

  no_cells : (a : Agreed) → IsFrame a.frame → product a.frame ≡ 0 → on_fills F (source (plan a) (Some x) y) s ≡ or_fault (numbers_of a.frame (in_order (answers f a x.atoms y.atoms))) s
  no_cells a frame none =
      ap (λ (o : Outcome Array). then_do (else_do o (pure zero_atom)) (λ c. or_fault (assemble a.frame (c ∷ [])))) (filled a)
      ∙ finish_none a.frame (f (fill_atom x.kind) (fill_atom y.kind)) s frame none
      ∙ ap (λ (rs : List (Result Atom Fault)). or_fault (numbers_of a.frame (in_order rs)) s) (sym (no_answers a none))

  by_number : (a : Agreed) (n : ℕ) → IsNoun x → IsNoun y → IsAgreed x.shape y.shape a → product a.frame ≡ n → by_source F (source (plan a) (Some x) y) s ≡ or_fault (numbers_of a.frame (in_order (answers f a x.atoms y.atoms))) s
  by_number a zero nx ny ag e = none_met F (source (plan a) (Some x) y) (pair (plan a) (Some x) y) s (product a.frame) e ∙ no_cells a ag.frame e
  by_number a (suc n) nx ny ag e = some_met F (source (plan a) (Some x) y) (pair (plan a) (Some x) y) s (product a.frame) n e ∙ some_cells a nx ny ag (omega arith)

  by_agreement : (o : Option Agreed) → IsNoun x → IsNoun y → IsAgreedOr x.shape y.shape o → by_plan (plan_of (length x.shape) (length y.shape) o) F (Some x) y s ≡ or_fault (agreed_dyad f o x.atoms y.atoms) s
  by_agreement None nx ny ag = refl
  by_agreement (Some a) nx ny ag =
      ap (λ (b : Bool). let p : Result Planned Fault = cond b (Ok (plan a)) (Err Limit) in by_plan p F (Some x) y s) (le-leb (product a.frame) 4194304 ag.frame.few)
      ∙ by_number a (product a.frame) nx ny ag refl

  plan_is : (r : Ranks) → r.left ≡ rank.Number (pos 0) → r.right ≡ rank.Number (pos 0) → planned_for r (Some x) y ≡ plan_of (length x.shape) (length y.shape) (agree x.shape y.shape)
  plan_is r l g =
      let ex : length x.shape - 0 ≡ length x.shape = omega arith in
      let ey : length y.shape - 0 ≡ length y.shape = omega arith in
      ap (λ (k : Rank). dyad_plan k r.right x.shape y.shape) l ∙ ap (λ (k : Rank). dyad_plan (rank.Number (pos 0)) k x.shape y.shape) g
      ∙ ap (λ (n : ℕ). plan_of n (length y.shape - 0) (agree (take n x.shape) (take (length y.shape - 0) y.shape))) ex
      ∙ ap (λ (n : ℕ). plan_of (length x.shape) n (agree (take (length x.shape) x.shape) (take n y.shape))) ey
      ∙ ap (λ (t : List ℕ). plan_of (length x.shape) (length y.shape) (agree t (take (length y.shape) y.shape))) (take_all (length x.shape) x.shape (omega arith))
      ∙ ap (λ (t : List ℕ). plan_of (length x.shape) (length y.shape) (agree x.shape t)) (take_all (length y.shape) y.shape (omega arith))

  pub any_dyad_by_cells : (r : Ranks) → r.left ≡ rank.Number (pos 0) → r.right ≡ rank.Number (pos 0) → IsNoun x → IsNoun y → by_ranks r F (Some x) y s ≡ or_fault (scalar_dyad f x y) s
  unfolding by_ranks
  any_dyad_by_cells r l g nx ny =
      ap (λ (p : Result Planned Fault). by_plan p F (Some x) y s) (plan_is r l g)
      ∙ by_agreement (agree x.shape y.shape) nx ny (agreement x.shape y.shape (noun_frame x nx) (noun_frame y ny))

-- a pure meaning on two numbers
abbrev pub as_atom : Result ℤ Fault → Result Atom Fault
as_atom (Ok z) = Ok (number z)
as_atom (Err e) = Err e

abbrev pub on_atoms : (ℤ → ℤ → Result ℤ Fault) → Atom → Atom → Result Atom Fault
on_atoms g = of_numbers (λ m n. as_atom (g m n))

pub record IsPureOn (F : Doing) (g : ℤ → ℤ → Result ℤ Fault) (s : State) : Type 0 where
  pub is : (m n : ℤ) → F (Some (atom_array Number (number m))) (atom_array Number (number n)) s ≡ or_fault (one_number (as_atom (g m n))) s

as_atom_number : (r : Result ℤ Fault) → IsNumberOr (as_atom r)
as_atom_number (Ok z) = tt
as_atom_number (Err e) = tt

on_atoms_number : (g : ℤ → ℤ → Result ℤ Fault) (a b : Atom) → IsNumberOr (on_atoms g a b)
on_atoms_number g (number m) (number n) = as_atom_number (g m n)
on_atoms_number g (number m) (byte b) = tt
on_atoms_number g (number m) (nested k s r) = tt
on_atoms_number g (byte c) b = tt
on_atoms_number g (nested k s r) b = tt

number_pair : (F : Doing) (g : ℤ → ℤ → Result ℤ Fault) (s : State) → IsPureOn F g s → (k l : Kind) → k ≡ Number → l ≡ Number → (a b : Atom) → IsOfKind Number a → IsOfKind Number b →
    F (Some (atom_array k a)) (atom_array l b) s ≡ or_fault (one_number (on_atoms g a b)) s
number_pair F g s h k l ek el (number m) (number n) ha hb = ap (λ (j : Kind). F (Some (atom_array j (number m))) (atom_array l (number n)) s) ek ∙ ap (λ (j : Kind). F (Some (atom_array Number (number m))) (atom_array j (number n)) s) el ∙ h.is m n
number_pair F g s h k l ek el (number m) (byte b) ha hb = absurd hb
number_pair F g s h k l ek el (number m) (nested q t r) ha hb = absurd hb
number_pair F g s h k l ek el (byte c) b ha hb = absurd ha
number_pair F g s h k l ek el (nested q t r) b ha hb = absurd ha

pub numbers_by_cells : (F : Doing) (g : ℤ → ℤ → Result ℤ Fault) (r : Ranks) (x y : Array) (s : State) → IsPureOn F g s → r.left ≡ rank.Number (pos 0) → r.right ≡ rank.Number (pos 0) →
    IsNoun x → IsNoun y → x.kind ≡ Number → y.kind ≡ Number → by_ranks r F (Some x) y s ≡ or_fault (scalar_dyad (on_atoms g) x y) s
numbers_by_cells F g r x y s h l k nx ny kx ky =
    any_dyad_by_cells (on_atoms g) (on_atoms_number g) F x y s
    (λ a b ha hb. number_pair F g s h x.kind y.kind kx ky a b (subst (λ (j : Kind). IsOfKind j a) kx ha) (subst (λ (j : Kind). IsOfKind j b) ky hb)) r l k nx ny
