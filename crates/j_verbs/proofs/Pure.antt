-- Where what is done on cells is pure, the rule gives a function of the arguments.
use Rattle.std.proofs.Common.{◌≡◌, List, [], ◌∷◌, map, refl, ap, ◌∙◌, Option, Result, Ok, Err}
use Rattle.j_definitions.specs.Array.{Array}
use Rattle.j_definitions.specs.Cells.{in_order}
use Rattle.j_definitions.specs.declared.Fault.{Fault}
use Rattle.j_rank.specs.Assembly.{assemble}
use Rattle.j_rank.specs.Plans.{Planned}
use Rattle.j_verbs.specs.ByRank.{Doing, Cells, Source, zero_atom, on_pairs, on_fills, by_pairs, by_plan, by_ranks, planned_for, source}
use Rattle.j_verbs.specs.PureCells.{then_pure, else_pure, pairs_answer, fill_answer, fills_answer}
use Rattle.j_verbs.specs.Laws.{IsPure, PureStaysPure}
use Rattle.j_verbs.specs.State.{State, Outcome, then_do, else_do, pure, or_fault}
use Rattle.j_verbs.proofs.CellLaw.{pure_cells}

then_is : {A B : Type 0} (q : Result A Fault) (go : A → Result B Fault) (s : State) → then_do (or_fault q s) (λ a. or_fault (go a)) ≡ or_fault (then_pure q go) s
then_is (Ok a) go s = refl
then_is (Err e) go s = refl

else_is : {A : Type 0} (q : Result A Fault) (b : A) (s : State) → else_do (or_fault q s) (pure b) ≡ or_fault (else_pure q b) s
else_is (Ok a) b s = refl
else_is (Err e) b s = refl

module _ (h : Option Array → Array → Result Array Fault) where
  abbrev f : Doing
  f a b = or_fault (h a b)

  pub pairs_are : (c : Source) (s : State) → on_pairs f c s ≡ or_fault (pairs_answer h c) s
  pairs_are c s =
      ap (λ (o : Outcome (List Array)). then_do o (λ rs. or_fault (assemble c.frame rs))) (pure_cells h c.pairs s)
      ∙ then_is (in_order (map (λ (p : Cells). h p.0 p.1) c.pairs)) (assemble c.frame) s

  pub fills_are : (c : Source) (s : State) → on_fills f c s ≡ or_fault (fills_answer h c) s
  fills_are c s =
      ap (λ (o : Outcome Array). then_do (else_do o (pure zero_atom)) (λ r. or_fault (assemble c.frame (r ∷ [])))) (then_is c.fills (λ p. h p.0 p.1) s)
      ∙ ap (λ (o : Outcome Array). then_do o (λ r. or_fault (assemble c.frame (r ∷ [])))) (else_is (fill_answer h c) zero_atom s)
      ∙ then_is (else_pure (fill_answer h c) zero_atom) (λ r. assemble c.frame (r ∷ [])) s

  pairs_pure : (c : Source) → IsPure (on_pairs f c)
  pairs_pure c = record { answer = pairs_answer h c; is = pairs_are c }

  fills_pure : (c : Source) → IsPure (on_fills f c)
  fills_pure c = record { answer = fills_answer h c; is = fills_are c }

  source_pure : (ps : List Cells) (c : Source) → IsPure (by_pairs ps f c)
  source_pure [] c = fills_pure c
  source_pure (p ∷ ps) c = pairs_pure c

  plan_pure : (q : Result Planned Fault) (x : Option Array) (y : Array) → IsPure (by_plan q f x y)
  plan_pure (Err e) x y = record { answer = Err e; is = λ s. refl }
  plan_pure (Ok p) x y = source_pure (source p x y).pairs (source p x y)

pub pure_stays_pure : PureStaysPure
unfolding by_ranks
pure_stays_pure r h x y = plan_pure h (planned_for r x y) x y
