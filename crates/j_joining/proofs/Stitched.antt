-- What is left of the pairs in a loop over them, and how a plan decides.
use Rattle.std.proofs.Common.{◌≡◌, ◌<◌, ◌≤◌, ◌+◌, ◌-◌, ℕ, List, [], ◌∷◌, ◌++◌, map, arith, refl, sym, ap, subst, ◌∙◌, append_assoc, append-nil, Result, Ok, Err}
use Prim.Native.Nat.{suc}
use Rattle.std.specs.List.{range_with_len}
use Rattle.j_definitions.specs.Array.{Array, product}
use Rattle.j_definitions.specs.Cells.{in_order, with_first}
use Rattle.j_definitions.specs.declared.Fault.{Fault}
use Rattle.j_noun.specs.Refused.{OrWanting}
use Rattle.j_noun.specs.declared.refusal.Refusal.{Refusal}
use Rattle.j_noun.specs.declared.refusal.Refusal.TheVariants as refusal
use Rattle.j_rank.specs.Assembly.{assemble}
use Rattle.j_rank.specs.Plans.{Planned, dyad_plan}
use Rattle.j_joining.specs.Stitching.{item, pair_joined, then_assembled, pairs_joined, no_pairs_joined, stitched_by, stitched, stitch}

module _ (p : Planned) (x y : Array) where
  -- what the pair at a place gives
  abbrev met : ℕ → Result Array Fault
  met k = pair_joined p x y k

  -- with the results so far
  abbrev behind : List Array → Result (List Array) Fault → Result (List Array) Fault
  behind done (Ok more) = Ok (done ++ more)
  behind done (Err e) = Err e

  -- all results, by those so far and what is left from place k on
  unfoldable pub going : ℕ → List Array → Result (List Array) Fault
  going k done = behind done (in_order (map met (range_with_len k (product p.agreed.frame - k))))

  unfoldable pub all : Result (List Array) Fault
  all = in_order (map met (range_with_len 0 (product p.agreed.frame)))

  at_start : (q : Result (List Array) Fault) → behind [] q ≡ q
  at_start (Ok more) = refl
  at_start (Err e) = refl

  pub begun : (done : List Array) → done ≡ [] → going 0 done ≡ all
  unfolding going all
  begun done e =
      let n : product p.agreed.frame - 0 ≡ product p.agreed.frame = omega arith in
      ap (λ (done : List Array). behind done (in_order (map met (range_with_len 0 (product p.agreed.frame - 0))))) e
      ∙ ap (λ (n : ℕ). behind [] (in_order (map met (range_with_len 0 n)))) n ∙ at_start (in_order (map met (range_with_len 0 (product p.agreed.frame))))

  one_more : (done : List Array) (r : Array) (q : Result (List Array) Fault) → behind done (with_first r q) ≡ behind (done ++ r ∷ []) q
  one_more done r (Ok more) = let e : (done ++ r ∷ []) ++ more ≡ done ++ (r ∷ more) = simp append_assoc in ap (λ (all : List Array). let q : Result (List Array) Fault = Ok all in q) (sym e)
  one_more done r (Err e) = refl

  rest_more : (k : ℕ) → k < product p.agreed.frame → map met (range_with_len k (product p.agreed.frame - k)) ≡ met k ∷ map met (range_with_len (k + 1) (product p.agreed.frame - (k + 1)))
  rest_more k l = let n : product p.agreed.frame - k ≡ suc (product p.agreed.frame - (k + 1)) = omega arith in ap (λ (n : ℕ). map met (range_with_len k n)) n

  pub more : (k : ℕ) (done done' : List Array) (r : Array) → k < product p.agreed.frame → met k ≡ Ok r → done' ≡ done ++ r ∷ [] → going k done ≡ all → going (k + 1) done' ≡ all
  unfolding going
  more k done done' r l q d same =
      sym
      (ap (λ (rs : List (Result Array Fault)). behind done (in_order rs)) (rest_more k l)
      ∙ ap (λ (m : Result Array Fault). behind done (in_order (m ∷ map met (range_with_len (k + 1) (product p.agreed.frame - (k + 1)))))) q
      ∙ one_more done r (in_order (map met (range_with_len (k + 1) (product p.agreed.frame - (k + 1)))))
      ∙ ap (λ (done : List Array). behind done (in_order (map met (range_with_len (k + 1) (product p.agreed.frame - (k + 1)))))) (sym d))
      ∙ same

  answer_is : (q : Result (List Array) Fault) → q ≡ all → pairs_joined p x y ≡ then_assembled p.agreed.frame q
  unfolding all
  answer_is q e = ap (λ (r : Result (List Array) Fault). then_assembled p.agreed.frame r) (sym e)

  err_is : (k : ℕ) (done : List Array) (e : Fault) → k < product p.agreed.frame → met k ≡ Err e → going k done ≡ Err e
  unfolding going
  err_is k done e l q =
      ap (λ (rs : List (Result Array Fault)). behind done (in_order rs)) (rest_more k l)
      ∙ ap (λ (m : Result Array Fault). behind done (in_order (m ∷ map met (range_with_len (k + 1) (product p.agreed.frame - (k + 1)))))) q

  pub faulty : (k : ℕ) (done : List Array) (a : Refusal) → k < product p.agreed.frame → OrWanting {A = Array} (met k) (Err a) → going k done ≡ all → OrWanting {A = Array} (pairs_joined p x y) (Err a)
  faulty k done (refusal.Fault e) l q same = answer_is (Err e) (sym (err_is k done e l q) ∙ same)
  faulty k done refusal.NoMemory l q same = tt

  end_is : (k : ℕ) (done : List Array) → product p.agreed.frame ≤ k → going k done ≡ Ok done
  unfolding going
  end_is k done l =
      let n : product p.agreed.frame - k ≡ 0 = omega arith in
      let end : done ++ [] ≡ done = simp append-nil in
      ap (λ (n : ℕ). behind done (in_order (map met (range_with_len k n)))) n ∙ ap (λ (done : List Array). let q : Result (List Array) Fault = Ok done in q) end

  pub finished : (k : ℕ) (frame : List ℕ) (done : List Array) (a : Result Array Refusal) → product p.agreed.frame ≤ k → frame ≡ p.agreed.frame → going k done ≡ all → OrWanting (assemble frame done) a → OrWanting (pairs_joined p x y) a
  finished k frame done a l f same o =
      subst (λ (r : Result Array Fault). OrWanting r a) (ap (λ (f : List ℕ). assemble f done) f ∙ sym (answer_is (Ok done) (sym (end_is k done l) ∙ same))) o

-- how a plan decides
pub unplanned : (x y : Array) (e : Fault) → dyad_plan item item x.shape y.shape ≡ Err e → stitch x y ≡ Err e
unplanned x y e q = ap (λ (r : Result Planned Fault). stitched r x y) q

pub no_pairs : (x y : Array) (p : Planned) (a : Result Array Refusal) → dyad_plan item item x.shape y.shape ≡ Ok p → product p.agreed.frame ≡ 0 → OrWanting (no_pairs_joined p x y) a → OrWanting (stitch x y) a
no_pairs x y p a q e o =
    subst (λ (r : Result Array Fault). OrWanting r a) (sym (ap (λ (r : Result Planned Fault). stitched r x y) q ∙ ap (λ (n : ℕ). stitched_by n p x y) e)) o

pub some_pairs : (x y : Array) (p : Planned) (a : Result Array Refusal) → dyad_plan item item x.shape y.shape ≡ Ok p → 0 < product p.agreed.frame → OrWanting (pairs_joined p x y) a → OrWanting (stitch x y) a
some_pairs x y p a q l o =
    let e : product p.agreed.frame ≡ suc (product p.agreed.frame - 1) = omega arith in
    subst (λ (r : Result Array Fault). OrWanting r a) (sym (ap (λ (r : Result Planned Fault). stitched r x y) q ∙ ap (λ (n : ℕ). stitched_by n p x y) e)) o
