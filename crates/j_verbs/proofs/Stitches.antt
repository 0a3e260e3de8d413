-- `,.` of two nouns is `,` on their items, by the rule of cells.
use Rattle.std.proofs.Common.{◌≡◌, ℕ, List, [], ◌∷◌, map, refl, ap, ◌∙◌, Option, Some, Result, Ok, Err}
use Prim.Native.Nat.{zero, suc}
use Rattle.std.specs.List.{range_with_len}
use Rattle.j_definitions.specs.Array.{Array, product}
use Rattle.j_definitions.specs.Cells.{in_order}
use Rattle.j_definitions.specs.Limits.{limited}
use Rattle.j_definitions.specs.declared.Fault.{Fault}
use Rattle.j_joining.specs.Joining.{append, appended}
use Rattle.j_joining.specs.Stitching.{item, pair_joined, then_assembled, pairs_joined, no_pairs_joined, or_zero, stitched_by, stitched}
use Rattle.j_rank.specs.Assembly.{assemble}
use Rattle.j_rank.specs.Cells.{cell_of_fills}
use Rattle.j_rank.specs.Plans.{Planned, dyad_plan}
use Rattle.j_verbs.specs.declared.calls.Dyad.TheVariants.{Append}
use Rattle.j_verbs.specs.ByRank.{Doing, Source, zero_atom, by_pairs, by_plan, by_ranks, pair, source, with_left}
use Rattle.j_verbs.specs.Laws.{StitchedByItems}
use Rattle.j_verbs.specs.PureCells.{else_pure, fills_answer, on_two_cells, pairs_answer, then_pure}
use Rattle.j_verbs.specs.State.{State, or_fault}
use Rattle.j_verbs.specs.Words.{two_cell}
use Rattle.j_verbs.proofs.Pure.{fills_are, pairs_are}
use Rattle.j_verbs.proofs.Sources.{none_met, some_met}

abbrev joining : Option Array → Array → Result Array Fault
joining = two_cell Append

abbrev doing : Doing
doing x y = or_fault (joining x y)

assembled_same : (f : List ℕ) (q : Result (List Array) Fault) → then_pure q (assemble f) ≡ then_assembled f q
assembled_same f (Ok rs) = refl
assembled_same f (Err e) = refl

or_zero_same : (f : List ℕ) (q : Result Array Fault) → then_pure (else_pure q zero_atom) (λ r. assemble f (r ∷ [])) ≡ assemble f (or_zero q ∷ [])
or_zero_same f (Ok a) = refl
or_zero_same f (Err e) = refl

fills_same : (f : List ℕ) (a b : Result Array Fault) →
    then_pure (else_pure (then_pure (with_left a b) (on_two_cells joining)) zero_atom) (λ r. assemble f (r ∷ [])) ≡ assemble f (or_zero (appended a b) ∷ [])
fills_same f (Ok a) (Ok b) = or_zero_same f (append a b)
fills_same f (Ok a) (Err e) = refl
fills_same f (Err e) (Ok b) = refl
fills_same f (Err e) (Err d) = refl

module _ (p : Planned) (x y : Array) where
  abbrev c : Source
  c = source p (Some x) y

  pulled : (ks : List ℕ) → map (on_two_cells joining) (map (pair p (Some x) y) ks) ≡ map (pair_joined p x y) ks
  pulled [] = refl
  pulled (k ∷ ks) = ap (λ (rs : List (Result Array Fault)). pair_joined p x y k ∷ rs) (pulled ks)

  pairs_same : pairs_answer joining c ≡ pairs_joined p x y
  pairs_same =
      ap (λ (rs : List (Result Array Fault)). then_pure (in_order rs) (assemble p.agreed.frame)) (pulled (range_with_len 0 (product p.agreed.frame)))
      ∙ assembled_same p.agreed.frame (in_order (map (pair_joined p x y) (range_with_len 0 (product p.agreed.frame))))

  none_same : fills_answer joining c ≡ no_pairs_joined p x y
  none_same = fills_same p.agreed.frame (limited (cell_of_fills p.left x)) (limited (cell_of_fills p.right y))

  by_count : (n : ℕ) (s : State) → product p.agreed.frame ≡ n → by_pairs c.pairs doing c s ≡ or_fault (stitched_by n p x y) s
  by_count zero s e =
      none_met doing c (pair p (Some x) y) s (product p.agreed.frame) e ∙ fills_are joining c s ∙ ap (λ (q : Result Array Fault). or_fault q s) none_same
  by_count (suc n) s e =
      some_met doing c (pair p (Some x) y) s (product p.agreed.frame) n e ∙ pairs_are joining c s ∙ ap (λ (q : Result Array Fault). or_fault q s) pairs_same

planned_same : (q : Result Planned Fault) (x y : Array) (s : State) → by_plan q doing (Some x) y s ≡ or_fault (stitched q x y) s
planned_same (Err e) x y s = refl
planned_same (Ok p) x y s = by_count p x y (product p.agreed.frame) s refl

pub stitched_by_items : StitchedByItems
unfolding by_ranks
stitched_by_items x y s = planned_same (dyad_plan item item x.shape y.shape) x y s
