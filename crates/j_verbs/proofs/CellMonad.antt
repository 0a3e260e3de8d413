-- A verb of rank 0 by the rule of cells, and a scalar monad.
use Rattle.std.proofs.Common.{◌≡◌, ◌<◌, ◌+◌, ◌-◌, ◌/◌, ℕ, pos, Bool, cond, List, [], ◌∷◌, length, map, take, drop, arith, refl, sym, ap, subst, ◌∙◌, Some, None, Result, Ok, Err}
use Prim.Native.Nat.{zero, suc}
use Rattle.std.specs.List.{range_with_len}
use Rattle.std.proofs.lemmas.Bool.{le-leb}
use Rattle.std.proofs.lemmas.List.{take_all, drop_all, drop_more}
use Rattle.j_definitions.specs.Array.{Array, Atom, number, atom_array, product, IsNoun}
use Rattle.j_definitions.specs.Cells.{in_order}
use Rattle.j_kernels.specs.Scalars.{numbers_of, scalar_monad}
use Rattle.j_definitions.specs.Cells.{atom_at}
use Rattle.j_definitions.specs.declared.Fault.{Fault}
use Rattle.j_definitions.specs.declared.Fault.TheVariants.{Limit}
use Rattle.j_noun.specs.declared.ranks.Rank.{Rank}
use Rattle.j_noun.specs.declared.ranks.Rank.TheVariants as rank
use Rattle.j_leaves.specs.declared.ranks.Ranks.{Ranks}
use Rattle.j_definitions.specs.Array.{fill_atom}
use Rattle.j_rank.specs.Cells.{cell}
use Rattle.j_rank.specs.Plans.{Planned, plan_of, monad_plan}
use Rattle.j_rank.specs.Assembly.{assemble}
use Rattle.j_verbs.specs.ByRank.{Doing, Cells, planned_for, pair, with_right, on_pair, over_pairs, on_pairs, fill_result, zero_atom, on_fills, source, by_source, by_plan, by_ranks}
use Rattle.j_verbs.specs.State.{State, Outcome, then_do, else_do, ◌>>=◌, pure, or_fault}
use Rattle.j_verbs.specs.Words.{one_number}
use Rattle.j_verbs.proofs.Sources.{none_met, some_met}
use Rattle.j_verbs.proofs.CellLaw.{pure_first, atom_cell, fill_cell_limited, IsNumberOr, IsLightOr, all_light, ones_in_order, joined, finish, finish_none, noun_frame}

-- a meaning that is pure on the cells that there are
pub pure_range : (F : Doing) (c : ℕ → Cells) (h : ℕ → Result Array Fault) (s : State) (a n : ℕ) → ((k : ℕ) → k < a + n → F (c k).0 (c k).1 s ≡ or_fault (h k) s) →
    over_pairs F (map c (range_with_len a n)) s ≡ or_fault (in_order (map h (range_with_len a n))) s
pure_range F c h s a zero e = refl
pure_range F c h s a (suc n) e =
    ap (λ (o : Outcome Array). then_do o (λ r. over_pairs F (map c (range_with_len (a + 1) n)) >>= (λ rs. pure (r ∷ rs)))) (e a (omega arith))
    ∙ pure_first (h a) (map h (range_with_len (a + 1) n)) (over_pairs F (map c (range_with_len (a + 1) n))) s (pure_range F c h s (a + 1) n (λ k l. e k (omega arith)))

module _ (f : Atom → Result Atom Fault) (good : (a : Atom) → IsNumberOr (f a)) (F : Doing) (y : Array) (s : State) (is : (a : Atom) → F None (atom_array y.kind a) s ≡ or_fault (one_number (f a)) s) where
  abbrev plan : Planned
  plan = record { left = 0; right = length y.shape; agreed = record { frame = y.shape; left = product y.shape; right = 1 } }

  abbrev at : ℕ → Result Array Fault
  at k = one_number (f (atom_at y.atoms k))

  first_of_rest : (k : ℕ) → k < length y.atoms → take 1 (drop k y.atoms) ≡ atom_at y.atoms k ∷ []
  first_of_rest k l = ap (take 1) (drop_more y.atoms k (number (pos 0)) l)

  cell_is : (k : ℕ) → k < length y.atoms → F None (cell (length y.shape) y (k / 1)) s ≡ or_fault (at k) s
  cell_is k l =
      let e : k / 1 ≡ k = omega arith in
      ap (λ (j : ℕ). F None (cell (length y.shape) y j) s) e ∙ ap (λ (c : Array). F None c s) (atom_cell y k)
      ∙ ap (λ (xs : List Atom). let c : Array = record { kind = y.kind; shape = []; atoms = xs } in F None c s) (first_of_rest k l) ∙ is (atom_at y.atoms k)

  atoms_from : (a n : ℕ) → a + n ≡ length y.atoms → map at (range_with_len a n) ≡ map one_number (map f (drop a y.atoms))
  atoms_from a zero e = ap (λ (xs : List Atom). map one_number (map f xs)) (sym (drop_all a y.atoms (omega arith)))
  atoms_from a (suc n) e =
      ap (λ (rs : List (Result Array Fault)). at a ∷ rs) (atoms_from (a + 1) n (omega arith))
      ∙ ap (λ (xs : List Atom). map one_number (map f xs)) (sym (drop_more y.atoms a (number (pos 0)) (omega arith)))

  some_cells : IsNoun y → 0 < product y.shape → on_pairs F (source plan None y) s ≡ or_fault (scalar_monad f y) s
  some_cells noun some =
      let many : 0 + product y.shape ≡ length y.atoms = omega (arith, noun.as_many) in
      let light : IsLightOr (in_order (map f y.atoms)) (product y.shape) = subst (IsLightOr (in_order (map f y.atoms))) noun.as_many (all_light f good y.atoms) in
      ap (λ (o : Outcome (List Array)). then_do o (joined y.shape)) (
      pure_range F (pair plan None y) at s 0 (product y.shape) (λ k l. cell_is k (omega arith))
      ∙ ap (λ (rs : List (Result Array Fault)). or_fault (in_order rs) s) (atoms_from 0 (product y.shape) many)
      ∙ ap (λ (q : Result (List Array) Fault). or_fault q s) (ones_in_order (map f y.atoms))
      )
      ∙ finish y.shape (in_order (map f y.atoms)) s (noun_frame y noun) some light

  filled : fill_result F (source plan None y) s ≡ or_fault (one_number (f (fill_atom y.kind))) s
  filled = ap (λ (r : Result Array Fault). then_do (or_fault (with_right None r) s) (on_pair F)) (fill_cell_limited y) ∙ is (fill_atom y.kind)

  no_atoms : (xs : List Atom) → length xs ≡ 0 → xs ≡ []
  no_atoms [] e = refl
  no_atoms (x ∷ xs) e = absurd (omega arith)

  no_cells : IsNoun y → product y.shape ≡ 0 → on_fills F (source plan None y) s ≡ or_fault (scalar_monad f y) s
  no_cells noun none =
      ap (λ (o : Outcome Array). then_do (else_do o (pure zero_atom)) (λ c. or_fault (assemble y.shape (c ∷ [])))) filled
      ∙ finish_none y.shape (f (fill_atom y.kind)) s (noun_frame y noun) none
      ∙ ap (λ (xs : List Atom). or_fault (numbers_of y.shape (in_order (map f xs))) s) (sym (no_atoms y.atoms (noun.as_many ∙ none)))

  by_number : (n : ℕ) → IsNoun y → product y.shape ≡ n → by_source F (source plan None y) s ≡ or_fault (scalar_monad f y) s
  by_number zero noun e = none_met F (source plan None y) (pair plan None y) s (product y.shape) e ∙ no_cells noun e
  by_number (suc n) noun e = some_met F (source plan None y) (pair plan None y) s (product y.shape) n e ∙ some_cells noun (omega arith)

  plan_is : (r : Ranks) → r.monad ≡ rank.Number (pos 0) → IsNoun y → planned_for r None y ≡ Ok plan
  plan_is r m noun =
      let e : length y.shape - 0 ≡ length y.shape = omega arith in
      let few = noun_frame y noun in
      ap (λ (k : Rank). monad_plan k y.shape) m
      ∙ ap (λ (n : ℕ). plan_of 0 n (Some (record { frame = take n y.shape; left = product (take n y.shape); right = 1 }))) e
      ∙ ap (λ (t : List ℕ). plan_of 0 (length y.shape) (Some (record { frame = t; left = product t; right = 1 }))) (take_all (length y.shape) y.shape (omega arith))
      ∙ ap (λ (b : Bool). let p : Result Planned Fault = cond b (Ok plan) (Err Limit) in p) (le-leb (product y.shape) 4194304 few.few)

  pub monad_by_cells : (r : Ranks) → r.monad ≡ rank.Number (pos 0) → IsNoun y → by_ranks r F None y s ≡ or_fault (scalar_monad f y) s
  unfolding by_ranks
  monad_by_cells r m noun = ap (λ (p : Result Planned Fault). by_plan p F None y s) (plan_is r m noun) ∙ by_number (product y.shape) noun refl
