-- Plans, and what is left of cells in a loop over them.
use Rattle.std.proofs.Common.{◌≡◌, ℕ, ◌+◌, ◌<◌, ◌≤◌, List, [], ◌∷◌, ◌++◌, drop, length, Option, Result, Ok, Err, refl, sym, ap, subst, ◌∙◌, append_assoc, append-nil, arith}
use Rattle.std.specs.Prelude.{IfOk}
use Rattle.std.proofs.lemmas.List.{drop_all}
use Rattle.j_definitions.specs.Array.{Array}
use Rattle.j_definitions.specs.declared.Fault.{Fault}
use Rattle.j_leaves.specs.declared.ranks.Ranks.{Ranks}
use Rattle.j_rank.specs.Assembly.{assemble}
use Rattle.j_rank.specs.Plans.{Planned, planned}
use Rattle.j_eval.specs.declared.outcome.Halt.{Halt}
use Rattle.j_eval.specs.declared.outcome.Halt.TheVariants as halt
use Rattle.j_verbs.specs.ByRank.{Doing, Cells, Source, IsWhole, planned_for, pair, over_pairs, on_pairs, on_fills, source, by_pairs, by_source, by_plan, by_ranks}
use Rattle.j_verbs.specs.State.{State, Outcome, Gave, Erred, Spent, Run, then_do, ◌>>=◌, pure, or_fault}
use Rattle.j_eval.specs.Meets.{Running, Meets}
use Rattle.j_eval.proofs.Parts.{then_err}

module _ (f : Doing) (c : Source) where
  -- the results so far, then those of the other cells, as one noun
  abbrev joined : List Array → List Array → Run Array
  joined done more = or_fault (assemble c.frame (done ++ more))

  abbrev with_rest : List Array → List Cells → Run Array
  with_rest done cs = over_pairs f cs >>= joined done

  -- what is left from place k on
  unfoldable pub going : ℕ → List Array → Run Array
  going k done = with_rest done (drop k c.pairs)

  -- the results of the cells after one
  abbrev after : List Cells → Array → Run (List Array)
  after cs r = over_pairs f cs >>= (λ more. pure (r ∷ more))

  -- one result more
  joined_more : (done : List Array) (r : Array) (o : Outcome (List Array)) → then_do (then_do o (λ more. pure (r ∷ more))) (joined done) ≡ then_do o (joined (done ++ r ∷ []))
  joined_more done r (Gave more t) = let e : (done ++ r ∷ []) ++ more ≡ done ++ (r ∷ more) = simp append_assoc in ap (λ (all : List Array). or_fault (assemble c.frame all) t) (sym e)
  joined_more done r (Erred e t) = refl
  joined_more done r (Spent t) = refl

  at_cells : (p : Cells) (a b : Option Array) (d : Array) (s : State) → a ≡ b → (b, d) ≡ p → f a d s ≡ f p.0 p.1 s
  at_cells p a b d s e q = ap (λ (a : Option Array). f a d s) e ∙ ap (λ (p : Cells). f p.0 p.1 s) q

  pub cells_begun : (done : List Array) (s t : State) → done ≡ [] → s ≡ t → going 0 done s ≡ on_pairs f c t
  unfolding going
  cells_begun done s t e q = ap (λ (done : List Array). with_rest done c.pairs s) e ∙ ap (on_pairs f c) q

  pub cells_more : (k : ℕ) (p : Cells) (a b : Option Array) (d : Array) (done done' : List Array) (r : Array) (s u t t' : State) → drop k c.pairs ≡ p ∷ drop (k + 1) c.pairs → a ≡ b → (b, d) ≡ p → f a d u ≡ Gave r t → done' ≡ done ++ r ∷ [] → u ≡ s → t' ≡ t → going k done s ≡ going (k + 1) done' t'
  unfolding going
  cells_more k p a b d done done' r s u t t' l e q h g w z =
      ap (λ (cs : List Cells). with_rest done cs s) l
      ∙ ap (λ (o : Outcome Array). then_do (then_do o (after (drop (k + 1) c.pairs))) (joined done)) (sym (at_cells p a b d s e q) ∙ sym (ap (f a d) w) ∙ h)
      ∙ joined_more done r (over_pairs f (drop (k + 1) c.pairs) t)
      ∙ ap (λ (done : List Array). going (k + 1) done t) (sym g) ∙ ap (going (k + 1) done') (sym z)

  pub cells_err : (k : ℕ) (p : Cells) (a b : Option Array) (d : Array) (done : List Array) (e : Halt) (m : Running) (s u : State) (o : Outcome Array) → drop k c.pairs ≡ p ∷ drop (k + 1) c.pairs → a ≡ b → (b, d) ≡ p → Meets {A = Array} (Err e) m (f a d u) → going k done s ≡ o → u ≡ s → Meets {A = Array} (Err e) m o
  unfolding going
  cells_err k p a b d done e m s u o l q g h w z =
      let first : Meets {A = Array} (Err e) m (f p.0 p.1 s) = subst (Meets {A = Array} (Err e) m) (ap (f a d) z ∙ at_cells p a b d s q g) h in
      let both = then_err {A = List Array} {B = Array} e m (then_do (f p.0 p.1 s) (after (drop (k + 1) c.pairs))) (joined done) (then_err {A = Array} {B = List Array} e m (f p.0 p.1 s) (after (drop (k + 1) c.pairs)) first) in
      subst (Meets {A = Array} (Err e) m) (ap (λ (cs : List Cells). with_rest done cs s) (sym l) ∙ w) both

  pub cells_end : (k : ℕ) (frame : List ℕ) (done : List Array) (s : State) → length c.pairs ≤ k → frame ≡ c.frame → going k done s ≡ or_fault (assemble frame done) s
  unfolding going
  cells_end k frame done s l e =
      let none : drop k c.pairs ≡ [] = drop_all k c.pairs l in
      let all : done ++ [] ≡ done = simp append-nil in
      ap (λ (cs : List Cells). with_rest done cs s) none ∙ ap (λ (all : List Array). or_fault (assemble c.frame all) s) all ∙ ap (λ (frame : List ℕ). or_fault (assemble frame done) s) (sym e)

  -- where there are no cells, and where there are some
  none_met : (cs : List Cells) (s : State) (a : Result Array Halt) (m : Running) → length cs ≡ 0 → Meets a m (on_fills f c s) → Meets a m (by_pairs cs f c s)
  none_met [] s a m e h = h
  none_met (p ∷ cs) s a m e h = absurd (omega arith)

  some_met : (cs : List Cells) (s : State) (a : Result Array Halt) (m : Running) → 0 < length cs → Meets a m (on_pairs f c s) → Meets a m (by_pairs cs f c s)
  some_met [] s a m l h = absurd (omega arith)
  some_met (p ∷ cs) s a m l h = h

  pub where_none : (s : State) (a : Result Array Halt) (m : Running) → length c.pairs ≡ 0 → Meets a m (on_fills f c s) → Meets a m (by_source f c s)
  where_none s a m e h = none_met c.pairs s a m e h

  pub where_some : (s : State) (a : Result Array Halt) (m : Running) → 0 < length c.pairs → Meets a m (on_pairs f c s) → Meets a m (by_source f c s)
  where_some s a m l h = some_met c.pairs s a m l h

-- a plan that isn't made
pub ranks_err : (r : Ranks) (f : Doing) (x : Option Array) (y : Array) (e : Fault) (s : State) → planned_for r x y ≡ Err e → by_ranks r f x y s ≡ Erred e s
unfolding by_ranks
ranks_err r f x y e s h = ap (λ p. by_plan p f x y s) h

-- a plan that is made
pub ranks_ok : (r : Ranks) (f : Doing) (x : Option Array) (y : Array) (p : Planned) (a : Result Array Halt) (m : Running) (s : State) → planned_for r x y ≡ Ok p → Meets a m (by_source f (source p x y) s) → Meets a m (by_ranks r f x y s)
unfolding by_ranks
ranks_ok r f x y p a m s h g = subst (λ q. Meets a m (by_plan q f x y s)) (sym h) g

-- what the result of the one cell becomes
abbrev of_one : Outcome Array → Outcome Array
of_one o = then_do (then_do o (λ r. pure (r ∷ []))) (λ rs. or_fault (assemble [] rs))

of_one_meets : (a : Result Array Halt) (m : Running) (o : Outcome Array) → IfOk a (λ r. assemble [] (r ∷ []) ≡ Ok r) → Meets a m o → Meets a m (of_one o)
of_one_meets (Ok r) m o alone h = ap of_one h ∙ ap (λ q. or_fault q m.state) alone
of_one_meets (Err (halt.Failed e)) m o alone h = ap of_one h
of_one_meets (Err halt.Spent) m o alone h = ap of_one h
of_one_meets (Err halt.NoMemory) m o alone h = tt

-- a verb that takes the whole of its arguments
pub ranks_whole : (r : Ranks) (f : Doing) (x : Option Array) (y : Array) (a : Result Array Halt) (m : Running) (s : State) → IsWhole r x y → IfOk a (λ r. assemble [] (r ∷ []) ≡ Ok r) → Meets a m (f x y s) → Meets a m (by_ranks r f x y s)
unfolding by_ranks
ranks_whole r f x y a m s whole alone h =
    let one = of_one_meets a m (f x y s) alone h in
    let cell : Meets a m (of_one (f (pair (planned [] 0 0) x y 0).0 (pair (planned [] 0 0) x y 0).1 s)) = subst (λ (c : Cells). Meets a m (of_one (f c.0 c.1 s))) (sym whole.one) one in
    subst (λ q. Meets a m (by_plan q f x y s)) (sym whole.plan) cell
